-- A chain that a node knows was heard from a majority, in votes that were sent, and may be noted.
use Rattle.std.proofs.Common.{◌≡◌, ℕ, zero, suc, ◌+◌, ◌<◌, ◌≤◌, Bool, true, false, List, [], ◌∷◌, Some, refl, sym, ap, subst, inl, inr, arith}
use Rattle.std.specs.Prelude.{◌==◌, ◌&&◌, ◌||◌, nat_lt, not, if◌then◌else◌}
use Rattle.std.proofs.lemmas.Bool.{eqb-true, or_left, or_right}
use Rattle.std.proofs.lemmas.Bool.Decides.{nat_tests}
use Rattle.mc_model.specs.message.Decree.{Attempt, Decree, Failed, Fate, Kind, Taken, Told}
use Rattle.mc_model.specs.message.Ids.{incarnation_of, node_of, serial_of}
use Rattle.mc_model.specs.node.Actor.{Actor}
use Rattle.mc_model.specs.node.Concerns.{WasGiven}
use Rattle.mc_model.specs.node.Knowledge.{IsKnown, Knows}
use Rattle.mc_model.specs.node.Setup.{Setup}
use Rattle.mc_model.specs.synod.Lists.{In}
use Rattle.mc_model.specs.synod.Majority.{IsMajority}
use Rattle.mc_model.specs.synod.OneSlot.{Vote, vote_at}
use Rattle.mc_model.specs.synod.Packet.{Voted, slot_of}
use Rattle.mc_model.specs.cluster.Steps.{Cluster, acts_in, setup_of}
use Rattle.mc_model.specs.cluster.World.{cast}
use Rattle.mc_parts.proofs.Majorities.{both, counted}
use Rattle.mc_parts.proofs.Membership.{slot_self}
use Rattle.node_model.specs.Answers.{ends_told, is_told_by}
use Rattle.node_model.specs.Kept.{Kept, message_at}
use Rattle.node_model.specs.Packets.{vote_concerns}
use Rattle.node_model.specs.Sets.{is_majority}
use Rattle.node_model.specs.Stepped.{restarted}
use Rattle.node_laws.specs.Clusters.{MayHappen, NodeInput, kept_reached}
use Rattle.rest_laws.specs.Notes.{HasNote, set_of}
use Rattle.rest_laws.proofs.runs.Worlds.{WasAuthored, actor_is, authored, node_at, node_stands, run, together, was_sent, world, world_holds}

-- ---- the nodes that pass a test

abbrev listed : (ℕ → Bool) → ℕ → List ℕ
listed test zero = []
listed test (suc node) = if test (suc node) then suc node ∷ listed test node else listed test node

pub record IsListed (test : ℕ → Bool) (nodes node : ℕ) : Type 0 where
  pub least : 1 ≤ node
  pub most : node ≤ nodes
  pub passes : test node ≡ true

listed_pass : (test : ℕ → Bool) (nodes node : ℕ) → In node (listed test nodes) → IsListed test nodes node
listed_pass test zero node among = absurd among
listed_pass test (suc nodes) node among = by (test (suc nodes)) refl among (λ later. listed_pass test nodes node later)
  where
    one_more : IsListed test nodes node → IsListed test (suc nodes) node
    one_more it = record { least = it.least; most = omega (arith, it.most); passes = it.passes }

    by : (b : Bool) → test (suc nodes) ≡ b → In node (if b then suc nodes ∷ listed test nodes else listed test nodes) →
        (In node (listed test nodes) → IsListed test nodes node) → IsListed test (suc nodes) node
    by true is (inl same) later = record {
      least = omega (arith, same);
      most = omega (arith, same);
      passes = subst (λ (n : ℕ). test n ≡ true) (sym same) is;
    }
    by true is (inr among) later = one_more (later among)
    by false is among later = one_more (later among)

in_set : (test : ℕ → Bool) (nodes node : ℕ) → 1 ≤ node → node ≤ nodes → test node ≡ true → set_of (listed test nodes) node ≡ true
in_set test zero node least most passes = absurd (omega (arith, least, most))
in_set test (suc nodes) node least most passes = by (test (suc nodes)) refl (node == suc nodes) refl (in_set test nodes node least)
  where
    by : (b : Bool) → test (suc nodes) ≡ b → (c : Bool) → (node == suc nodes) ≡ c →
        (node ≤ nodes → test node ≡ true → set_of (listed test nodes) node ≡ true) →
        set_of (if b then suc nodes ∷ listed test nodes else listed test nodes) node ≡ true
    by true is true same rest = or_right (set_of (listed test nodes) node) (node == suc nodes) same
    by true is false differs rest =
        or_left (set_of (listed test nodes) node) (node == suc nodes) (rest (below differs) passes)
      where
        below : (node == suc nodes) ≡ false → node ≤ nodes
        below apart = grind (arith, nat_tests, most)
    by false is true same rest =
        let at : node ≡ suc nodes = eqb-true node (suc nodes) same in
        let no : test node ≡ false = subst (λ (n : ℕ). test n ≡ false) (sym at) is in
        absurd (cc)
    by false is false differs rest = rest (grind (arith, nat_tests, most)) passes

listed_decide : (test : ℕ → Bool) (nodes : ℕ) → IsMajority nodes test → is_majority nodes (set_of (listed test nodes)) ≡ true
listed_decide test nodes most =
    let more : IsMajority nodes (set_of (listed test nodes)) =
    counted nodes (λ node. test node ≡ true) (set_of (listed test nodes)) (λ node least within passes. in_set test nodes node least within passes)
    (record { test = test; most = most; each = λ node least within passes. passes }) in
    grind (arith, nat_tests, more)

-- ---- what was heard was sent

pub heard_sent : (cluster : Cluster) (inputs : List NodeInput) → MayHappen cluster inputs → (node id voter : ℕ) (vote : Vote) →
    (message_at ((kept_reached cluster inputs).kept node) id).votes vote voter ≡ true →
    In (Voted voter (slot_of id vote.chain) vote) (kept_reached cluster inputs).packets
heard_sent cluster inputs may node id voter vote heard =
    was_sent cluster inputs may node (Voted voter (slot_of id vote.chain) vote)
    ((((node_stands cluster inputs may node).agrees.message id).heard.votes voter vote).0 heard)

-- ---- what is known may be noted

not_told_yet : (node incarnation : ℕ) (newest : Decree) (kind : Kind) →
    (newest.author.node ≡ node → newest.author.incarnation < incarnation) → is_told_by node incarnation newest.author kind ≡ false
not_told_yet node incarnation newest (Taken message) below = refl
not_told_yet node incarnation newest (Attempt number) below = refl
not_told_yet node incarnation newest (Failed error) below = refl
not_told_yet node incarnation newest (Fate final error) below = refl
not_told_yet node incarnation newest Told below = by (newest.author.node == node) refl
  where
    by : (b : Bool) → (newest.author.node == node) ≡ b → (b && (newest.author.incarnation == incarnation)) ≡ false
    by true same =
        let less = below (eqb-true newest.author.node node same) in
        let apart : (newest.author.incarnation == incarnation) ≡ false = grind (arith, nat_tests, less) in apart
    by false differs = refl

given_before : (a : Actor) (id incarnation serial : ℕ) → WasGiven a id → a.incarnation < incarnation →
    (nat_lt (incarnation_of id) incarnation || ((incarnation_of id == incarnation) && nat_lt (serial_of id) serial)) ≡ true
given_before a id incarnation serial (inl before) later =
    let less : incarnation_of id < incarnation = omega (arith, before, later) in
    or_left (nat_lt (incarnation_of id) incarnation) _ (grind (arith, nat_tests, less))
given_before a id incarnation serial (inr now) later =
    let same = now.0 in
    let less : incarnation_of id < incarnation = omega (arith, same, later) in
    or_left (nat_lt (incarnation_of id) incarnation) _ (grind (arith, nat_tests, less))

concerning : (setup : Setup) (k : Kept) (a : Actor) (id : ℕ) (chain : List Decree) → a.incarnation < k.incarnation → (node_of id ≡ setup.node → WasGiven a id) →
    (ballot : ℕ) → vote_concerns setup k (slot_of id chain) (vote_at ballot chain) ≡ true
concerning setup k a id chain later given ballot =
    λ i. slot_self (slot_of id chain) i && by (node_of id == setup.node) refl i
  where
    by : (b : Bool) → (node_of id == setup.node) ≡ b →
        (not b || (nat_lt (incarnation_of id) k.incarnation || ((incarnation_of id == k.incarnation) && nat_lt (serial_of id) k.serial))) ≡ true
    by true same = given_before a id k.incarnation k.serial (given (eqb-true (node_of id) setup.node same)) later
    by false differs = refl

module _ (cluster : Cluster) (inputs : List NodeInput) (may : MayHappen cluster inputs) (node id : ℕ) (chain : List Decree) where
  abbrev setup : Setup
  setup = setup_of cluster node

  abbrev k : Kept
  k = (kept_reached cluster inputs).kept node

  abbrev a : Actor
  a = (node_at cluster inputs may node).actor

  ends_earlier : (incarnation : ℕ) → a.incarnation < incarnation → WasAuthored (world cluster inputs may) id chain → ends_told node incarnation chain ≡ false
  ends_earlier incarnation later was = by chain was
    where
      by : (c : List Decree) → WasAuthored (world cluster inputs may) id c → ends_told node incarnation c ≡ false
      by [] was = refl
      by (newest ∷ older) was = not_told_yet node incarnation newest newest.kind (λ same.
          let here : newest.author.incarnation ≤ ((world cluster inputs may).actors node).incarnation =
          subst (λ (n : ℕ). newest.author.incarnation ≤ ((world cluster inputs may).actors n).incarnation) same was in
          let now : ((world cluster inputs may).actors node).incarnation ≡ a.incarnation =
          ap (λ (x : Actor). x.incarnation) (actor_is cluster inputs may node) in
          omega (arith, here, now, later))

  noted : Knows cluster.nodes a.received id chain → HasNote setup k id chain
  noted knows =
      let stands = node_stands cluster inputs may node in
      let vote : Vote = vote_at knows.ballot chain in
      let test = knows.learned.test in
      let some = both cluster.nodes _ _ knows.learned knows.learned in
      let fit = stands.agrees.coherent.fits (Voted some.node (slot_of id chain) vote) some.one in
      let holds = world_holds cluster inputs may in
      let sent = holds.keeps.received node (Voted some.node (slot_of id chain) vote)
      (subst (λ (x : Actor). In (Voted some.node (slot_of id chain) vote) x.received) (sym (actor_is cluster inputs may node)) some.one) in
      let proposed = holds.keeps.proposed (cast some.node (slot_of id chain) vote) (holds.keeps.fits (Voted some.node (slot_of id chain) vote) sent) in
      let was = authored cluster.nodes cluster.serials (acts_in (together cluster inputs may).steps) (run cluster inputs may)
      (slot_of id chain) vote proposed in
      record {
        note = record { slot = slot_of id chain; vote = vote; voters = listed test cluster.nodes };
        slot_is = refl;
        chain_is = refl;
        heard = λ voter among.
            let it = listed_pass test cluster.nodes voter among in
            ((stands.agrees.message id).heard.votes voter vote).1 (knows.learned.each voter it.least it.most it.passes);
        again = λ lost.
            let later : a.incarnation < suc (k.incarnation + lost) = let same = stands.agrees.incarnation in omega (arith, same) in
            record {
              earlier = ends_earlier (suc (k.incarnation + lost)) later was;
              concerns = concerning setup (restarted setup k lost) a id chain later fit.1 knows.ballot;
              members = λ voter among.
                  let it = listed_pass test cluster.nodes voter among in
                  let least = it.least in let most = it.most in grind (arith, nat_tests, least, most);
              majority = listed_decide test cluster.nodes knows.learned.most;
            };
      }

  pub has_note : (message_at k id).known ≡ Some chain → HasNote setup k id chain
  has_note known =
      noted (subst (IsKnown cluster.nodes a.received id) known (((node_stands cluster inputs may node).agrees.message id).heard.known))
