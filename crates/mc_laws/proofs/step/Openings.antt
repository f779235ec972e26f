-- A run over stores that an earlier run left goes on from that run.
use Rattle.std.proofs.Common.{◌≡◌, ℕ, zero, suc, ◌+◌, ◌<◌, ◌≤◌, Bool, true, false, List, [], ◌∷◌, ◌++◌, Option, Some, None, refl, sym, ◌∙◌}
use Rattle.std.proofs.Common.{ap, subst, inl, inr, arith, append_assoc}
use Rattle.std.specs.Prelude.{◌==◌, if◌then◌else◌}
use Rattle.std.proofs.lemmas.Bool.{cases_Bool, cases_eq, eqb-true}
use Rattle.mc_model.specs.message.Decree.{Decree}
use Rattle.mc_model.specs.synod.Lists.{In}
use Rattle.mc_model.specs.synod.Majority.{Majority}
use Rattle.mc_model.specs.synod.OneSlot.{Vote}
use Rattle.mc_model.specs.synod.Packet.{Slot, slot_of, Packet, Promise}
use Rattle.mc_model.specs.synod.Acceptor.{Records}
use Rattle.mc_model.specs.node.Actor.{Actor, opened}
use Rattle.mc_model.specs.node.Proposal.{IsOwn, IsFree}
use Rattle.mc_model.specs.node.Act.{Act, Receives, Proposes, Restarts, Needs, IsUpFor}
use Rattle.mc_model.specs.node.Effect.{actor_by, records_by, packets_by}
use Rattle.mc_model.specs.cluster.World.{World, Cast, cast, May, IsChosenIn, StandsIn, after, sent_by, votes_by, changed, reached, start, IsRun, Run, world_of}
use Rattle.mc_model.specs.cluster.Stores.{start_over, openings, opened_in, serials_over, AreLeft}
use Rattle.mc_model.specs.cluster.Assembly.{acts_of}
use Rattle.mc_laws.proofs.invariant.Growth.{changed_cases, changed_here, actor_here, actor_apart, nodes_same}
use Rattle.mc_laws.proofs.step.Together.{acts_here, acts_apart}
use Rattle.mc_laws.proofs.invariant.Keeping.{justified_more}
use Rattle.mc_parts.proofs.Membership.{in_left}
use Rattle.mc_laws.proofs.step.Behind.{run_on, reached_on}

-- ---- one world has all that another has, and what was before

pub record GoesBeyond (Of : ℕ → Type 0) (v u : World) (old : World) : Type 0 where
  pub nodes : u.nodes ≡ v.nodes
  pub packets : u.packets ≡ v.packets ++ old.packets
  pub votes : u.votes ≡ v.votes ++ old.votes
  pub records : (node : ℕ) → Of node → u.records node ≡ v.records node
  pub actors : (node : ℕ) → Of node → u.actors node ≡ v.actors node

sent_too : (Of : ℕ → Type 0) (v u old : World) → GoesBeyond Of v u old → (packet : Packet) → In packet v.packets → In packet u.packets
sent_too Of v u old beyond packet is_in = subst (In packet) (sym beyond.packets) (in_left packet v.packets old.packets is_in)

voted_too : (Of : ℕ → Type 0) (v u old : World) → GoesBeyond Of v u old → (c : Cast) → In c v.votes → In c u.votes
voted_too Of v u old beyond c is_in = subst (In c) (sym beyond.votes) (in_left c v.votes old.votes is_in)

chosen_too : (Of : ℕ → Type 0) (v u old : World) → GoesBeyond Of v u old → (slot : Slot) (vote : Vote) → IsChosenIn v slot vote → IsChosenIn u slot vote
chosen_too Of v u old beyond slot vote chosen = subst (λ (n : ℕ). Majority n (λ acceptor. In (cast acceptor slot vote) u.votes)) (sym beyond.nodes) (record {
  test = chosen.test;
  most = chosen.most;
  each = λ node least most passes. voted_too Of v u old beyond (cast node slot vote) (chosen.each node least most passes);
})

own_too : (Of : ℕ → Type 0) (v u old : World) → GoesBeyond Of v u old → (node : ℕ) (a : Actor) (id : ℕ) (chain : List Decree) →
    IsOwn (IsChosenIn v) node a id chain →
    IsOwn (IsChosenIn u) node a id chain
own_too Of v u old beyond node a id chain (inl first) = inl first
own_too Of v u old beyond node a id chain (inr n) = inr (record {
  next = n.next;
  newest = n.newest;
  older = n.older;
  taken = n.taken;
  ballot = n.ballot;
  chain_is = n.chain_is;
  chosen = chosen_too Of v u old beyond _ _ n.chosen;
  author = n.author;
  moment = n.moment;
  message = n.message;
  may = n.may;
  allowed = n.allowed;
  error = n.error;
})

free_too : (Of : ℕ → Type 0) (v u old : World) → GoesBeyond Of v u old →
    (node : ℕ) (a : Actor) (slot : Slot) (chain : List Decree) (highest : Option Vote) →
    IsFree highest (StandsIn v slot chain) ((slot ≡ slot_of slot.id chain) × IsOwn (IsChosenIn v) node a slot.id chain) →
    IsFree highest (StandsIn u slot chain) ((slot ≡ slot_of slot.id chain) × IsOwn (IsChosenIn u) node a slot.id chain)
free_too Of v u old beyond node a slot chain (Some top) free = tt
free_too Of v u old beyond node a slot chain None (inl (inl sent)) = inl (inl (sent.0, sent.1, sent_too Of v u old beyond _ sent.2))
free_too Of v u old beyond node a slot chain None (inl (inr voted)) = inl (inr (voted.0, voted.1, voted_too Of v u old beyond _ voted.2))
free_too Of v u old beyond node a slot chain None (inr mine) = inr (mine.0, own_too Of v u old beyond node a slot.id chain mine.1)

-- what an act needs in the one it has in the other
abbrev NeedsIn : World → ℕ → ℕ → Actor → Records → Act → Type 0
NeedsIn w nodes node a records act = Needs nodes (λ packet. In packet w.packets) (λ packet. In packet w.packets) (StandsIn w) (IsChosenIn w) node a records act

needs_too : (Of : ℕ → Type 0) (v u old : World) → GoesBeyond Of v u old → (nodes node : ℕ) (a : Actor) (records : Records) (act : Act) →
    NeedsIn v nodes node a records act →
    NeedsIn u nodes node a records act
needs_too Of v u old beyond nodes node a records (Receives packet) needs = sent_too Of v u old beyond packet needs
needs_too Of v u old beyond nodes node a records (Proposes slot vote) may = record {
  proposer = may.proposer;
  incarnation = may.incarnation;
  once = may.once;
  justified = justified_more nodes (λ acceptor report. In (Promise acceptor slot vote.ballot report) v.packets)
      (λ acceptor report. In (Promise acceptor slot vote.ballot report) u.packets) vote.chain
      (λ acceptor report. sent_too Of v u old beyond _) may.justified;
  free = free_too Of v u old beyond node a slot vote.chain may.justified.highest may.free;
}
needs_too Of v u old beyond nodes node a records act needs = needs

pub may_too : (Of : ℕ → Type 0) (v u old : World) → GoesBeyond Of v u old → (node : ℕ) (act : Act) → Of node → May v node act → May u node act
may_too Of v u old beyond node act of may =
    let a = sym (beyond.actors node of) in
    let r = sym (beyond.records node of) in
    record {
      least = may.least;
      most = subst (λ (n : ℕ). node ≤ n) (sym beyond.nodes) may.most;
      up = subst (λ (x : Actor). IsUpFor x act) a may.up;
      needs = subst (λ (n : ℕ). NeedsIn u n node (u.actors node) (u.records node) act) (sym beyond.nodes) (
          subst (λ (x : Actor). NeedsIn u v.nodes node x (u.records node) act) a (
          subst (λ (x : Records). NeedsIn u v.nodes node (v.actors node) x act) r
          (needs_too Of v u old beyond v.nodes node (v.actors node) (v.records node) act may.needs)));
    }

changed_too : {A : Type 0} (things others : ℕ → A) (node : ℕ) (one other : A) (at : ℕ) → one ≡ other → things at ≡ others at →
    changed things node one at ≡ changed others node other at
changed_too things others node one other at new old = λ i. if at == node then new i else old i

-- and it goes on so
pub beyond_after : (Of : ℕ → Type 0) (v u old : World) → GoesBeyond Of v u old → (node : ℕ) (act : Act) → Of node →
    GoesBeyond Of (after v node act) (after u node act) old
beyond_after Of v u old beyond node act of =
    let a = beyond.actors node of in
    let r = beyond.records node of in
    let sent : sent_by u node act ≡ sent_by v node act = λ i. packets_by node (a i) (r i) act in
    record {
      nodes = beyond.nodes;
      packets = (λ i. sent i ++ beyond.packets i) ∙ sym (append_assoc (sent_by v node act) v.packets old.packets);
      votes = ap (λ (xs : List Cast). votes_by node act ++ xs) beyond.votes ∙ sym (append_assoc (votes_by node act) v.votes old.votes);
      records = λ other is. changed_too u.records v.records node _ _ other (ap (λ (x : Records). records_by x act) r) (beyond.records other is);
      actors = λ other is. changed_too u.actors v.actors node _ _ other (ap (λ (x : Actor). actor_by node x act) a) (beyond.actors other is);
    }

abbrev pub Within : World → ℕ → Type 0
Within w node = (1 ≤ node) × (node ≤ w.nodes)

pub run_beyond : (first v u old : World) (acts : List (ℕ × Act)) → v.nodes ≡ first.nodes → GoesBeyond (Within first) v u old →
    IsRun v acts →
    IsRun u acts × GoesBeyond (Within first) (reached v acts) (reached u acts) old
run_beyond first v u old [] same beyond run = (tt, beyond)
run_beyond first v u old (newest ∷ older) same beyond run =
    let before = run_beyond first v u old older same beyond run.1 in
    let may = run.0 in
    let nodes = nodes_same v older ∙ same in
    let of : Within first newest.0 = (may.least, subst (λ (n : ℕ). newest.0 ≤ n) nodes may.most) in (
      (may_too (Within first) (reached v older) (reached u older) old before.1 newest.0 newest.1 of may, before.0),
      beyond_after
          (Within first) (reached v older) (reached u older) old before.1 newest.0 newest.1 of,
    )

-- ---- the nodes start anew

-- what the openings find: the nodes with new stores as they started, and an incarnation for each of the others
pub record IsLeft (w : World) (fresh : ℕ → Bool) (lost serials : ℕ → ℕ) : Type 0 where
  pub new : (node : ℕ) → fresh node ≡ true → w.actors node ≡ opened 1 (serials node)
  pub old : (node : ℕ) → fresh node ≡ false → (w.actors node).incarnation + lost node < 9999

-- what the openings of some nodes leave of a world
record IsOpened (w v : World) (fresh : ℕ → Bool) (lost serials : ℕ → ℕ) (nodes : ℕ) : Type 0 where
  same : v.nodes ≡ w.nodes
  packets : v.packets ≡ w.packets
  votes : v.votes ≡ w.votes
  records : (node : ℕ) → v.records node ≡ w.records node
  opened_now : (node : ℕ) → 1 ≤ node → node ≤ nodes → v.actors node ≡ opened (opened_in w fresh lost node) (serials node)
  others : (node : ℕ) → nodes < node → v.actors node ≡ w.actors node

abbrev Opens : World → (ℕ → Bool) → (ℕ → ℕ) → (ℕ → ℕ) → ℕ → List (ℕ × Act) → Type 0
Opens w fresh lost serials nodes acts = IsRun w acts × IsOpened w (reached w acts) fresh lost serials nodes

-- the next node is new
skips : (w : World) (fresh : ℕ → Bool) (lost serials : ℕ → ℕ) (nodes : ℕ) (acts : List (ℕ × Act)) → IsLeft w fresh lost serials →
    fresh (suc nodes) ≡ true → Opens w fresh lost serials nodes acts →
    Opens w fresh lost serials (suc nodes) acts
skips w fresh lost serials nodes acts left new (run, is) = (
  run,
  record {
    same = is.same;
    packets = is.packets;
    votes = is.votes;
    records = is.records;
    opened_now = λ node least most. elim (cases_eq node (suc nodes)) [
      | inl last ↦
          is.others node (omega (arith, last))
          ∙ left.new node (ap fresh last ∙ new)
          ∙ ap (λ (b : Bool). opened (if b then 1 else suc ((w.actors node).incarnation + lost node)) (serials node)) (sym (ap fresh last ∙ new))
      | inr before ↦ is.opened_now node least (omega (arith, most, before))
    ];
    others = λ node above. is.others node (omega (arith, above));
  },
)

-- or it starts anew
restarts : (w : World) (fresh : ℕ → Bool) (lost serials : ℕ → ℕ) (nodes : ℕ) (acts : List (ℕ × Act)) → IsLeft w fresh lost serials →
    suc nodes ≤ w.nodes → fresh (suc nodes) ≡ false → Opens w fresh lost serials nodes acts →
    Opens w fresh lost serials (suc nodes) ((suc nodes, Restarts (lost (suc nodes)) (serials (suc nodes))) ∷ acts)
restarts w fresh lost serials nodes acts left within old (run, is) =
    let v = reached w acts in
    let act = Restarts (lost (suc nodes)) (serials (suc nodes)) in
    let same = is.others (suc nodes) (omega arith) in
    let may : May v (suc nodes) act = record {
      least = omega arith;
      most = subst (λ (n : ℕ). suc nodes ≤ n) (sym is.same) within;
      up = tt;
      needs = subst (λ (a : Actor). a.incarnation + lost (suc nodes) < 9999) (sym same) (left.old (suc nodes) old);
    } in
    let now : (after v (suc nodes) act).actors (suc nodes) ≡ opened (opened_in w fresh lost (suc nodes)) (serials (suc nodes)) =
    actor_here v (suc nodes) act
    ∙ ap (λ (a : Actor). opened (suc (a.incarnation + lost (suc nodes))) (serials (suc nodes))) same
    ∙ ap (λ (b : Bool). opened (if b then 1 else suc ((w.actors (suc nodes)).incarnation + lost (suc nodes))) (serials (suc nodes))) (sym old)
    in (
      (may, run),
      record {
        same = is.same;
        packets = is.packets;
        votes = is.votes;
        records = λ node. unchanged v node ∙ is.records node;
        opened_now = λ node least most. elim (cases_eq node (suc nodes)) [
          | inl last ↦ subst (λ (n : ℕ). (after v (suc nodes) act).actors n ≡ opened (opened_in w fresh lost n) (serials n)) (sym last) now
          | inr before ↦ actor_apart v (suc nodes) act node before ∙ is.opened_now node least (omega (arith, most, before))
        ];
        others = λ node above. actor_apart v (suc nodes) act node (λ last. omega (arith, above, last)) ∙ is.others node (omega (arith, above));
      },
    )
  where
    unchanged : (v : World) (node : ℕ) → changed v.records (suc nodes) (v.records (suc nodes)) node ≡ v.records node
    unchanged v node = elim (cases_eq node (suc nodes)) [
      | inl here ↦ subst (λ (n : ℕ). changed v.records (suc nodes) (v.records (suc nodes)) n ≡ v.records n) (sym here)
          (changed_here v.records (suc nodes) (v.records (suc nodes)))
      | inr apart ↦ elim (cases_Bool (node == suc nodes)) [
        | inl same ↦ absurd (apart (eqb-true node (suc nodes) same))
        | inr other ↦ ap (λ (b : Bool). if b then v.records (suc nodes) else v.records node) other
      ]
    ]

opens : (w : World) (fresh : ℕ → Bool) (lost serials : ℕ → ℕ) → IsLeft w fresh lost serials → (nodes : ℕ) → nodes ≤ w.nodes →
    Opens w fresh lost serials nodes (openings nodes fresh lost serials)
opens w fresh lost serials left zero within = (
  tt,
  record {
    same = refl;
    packets = refl;
    votes = refl;
    records = λ node. refl;
    opened_now = λ node least most. absurd (omega (arith, least, most));
    others = λ node above. refl;
  },
)
opens w fresh lost serials left (suc nodes) within = by_test (fresh (suc nodes)) refl (opens w fresh lost serials left nodes (omega (arith, within)))
  where
    by_test : (test : Bool) → fresh (suc nodes) ≡ test → Opens w fresh lost serials nodes (openings nodes fresh lost serials) →
        Opens w fresh lost serials (suc nodes) (openings (suc nodes) fresh lost serials)
    by_test true new before =
        subst (λ (b : Bool). Opens w fresh lost serials (suc nodes)
        (if b then openings nodes fresh lost serials else
        (suc nodes, Restarts (lost (suc nodes)) (serials (suc nodes))) ∷ openings nodes fresh lost serials)) (sym new)
        (skips w fresh lost serials nodes _ left new before)
    by_test false old before =
        subst (λ (b : Bool). Opens w fresh lost serials (suc nodes)
        (if b then openings nodes fresh lost serials else
        (suc nodes, Restarts (lost (suc nodes)) (serials (suc nodes))) ∷ openings nodes fresh lost serials)) (sym old)
        (restarts w fresh lost serials nodes _ left within old before)

-- ---- all of it

abbrev pub over : Run → (ℕ → Bool) → (ℕ → ℕ) → (ℕ → ℕ) → World
over run fresh lost serials = start_over run.nodes (world_of run).records (opened_in (world_of run) fresh lost) serials

pub goes_on_over : (run : Run) (fresh : ℕ → Bool) (lost serials : ℕ → ℕ) (later : List (ℕ × Act)) →
    IsLeft (world_of run) fresh lost serials → IsRun (over run fresh lost serials) later →
    IsRun (start run.nodes run.serials) (later ++ (openings run.nodes fresh lost serials ++ run.acts)) × GoesBeyond
    (Within (over run fresh lost serials)) (reached (over run fresh lost serials) later)
    (reached (reached (world_of run) (openings run.nodes fresh lost serials)) later) (world_of run)
goes_on_over run fresh lost serials later left after =
    let first = start run.nodes run.serials in
    let w = world_of run in
    let nodes = nodes_same first run.acts in
    let o = opens w fresh lost serials left run.nodes (omega (arith, nodes)) in
    let beyond : GoesBeyond (Within (over run fresh lost serials)) (over run fresh lost serials)
    (reached w (openings run.nodes fresh lost serials)) w = record {
      nodes = o.1.same ∙ nodes;
      packets = o.1.packets;
      votes = o.1.votes;
      records = λ node of. o.1.records node;
      actors = λ node of. o.1.opened_now node of.0 of.1;
    } in
    let b = run_beyond (over run fresh lost serials) (over run fresh lost serials)
    (reached w (openings run.nodes fresh lost serials)) w later refl beyond after in
    let opened_run = run_on first (openings run.nodes fresh lost serials) run.acts o.0 run.may in (
      run_on first later (openings run.nodes fresh lost serials ++ run.acts)
          (subst (λ (v : World). IsRun v later) (sym (reached_on first (openings run.nodes fresh lost serials) run.acts)) b.0) opened_run,
      b.1,
    )

-- its packets are numbered on
pub numbered_on : (run : Run) (fresh : ℕ → Bool) (lost serials : ℕ → ℕ) (later : List (ℕ × Act)) →
    IsLeft (world_of run) fresh lost serials → IsRun (over run fresh lost serials) later →
    (reached (start run.nodes run.serials) (later ++ (openings run.nodes fresh lost serials ++ run.acts))).packets ≡
    (reached (over run fresh lost serials) later).packets ++ (world_of run).packets
numbered_on run fresh lost serials later left after =
    let first = start run.nodes run.serials in
    let openers = openings run.nodes fresh lost serials in
    ap (λ (v : World). v.packets) (reached_on first later (openers ++ run.acts) ∙ ap (λ (v : World). reached v later) (reached_on first openers run.acts))
    ∙ (goes_on_over run fresh lost serials later left after).1.packets

-- ---- a node that took no step may have any first serial

-- an act of a node is among its acts
not_none : (node : ℕ) (newest : ℕ × Act) (older : List (ℕ × Act)) → acts_of node (newest ∷ older) ≡ [] → newest.0 ≡ node → ⊥
not_none node newest older none is = let some : (newest.1 ∷ acts_of node older) ≡ [] = sym (acts_here node newest older is) ∙ none in cc

none_before : (node : ℕ) (newest : ℕ × Act) (older : List (ℕ × Act)) → acts_of node (newest ∷ older) ≡ [] → acts_of node older ≡ []
none_before node newest older none = elim (cases_Bool (newest.0 == node)) [
  | inl same ↦ absurd (not_none node newest older none (eqb-true newest.0 node same))
  | inr other ↦ sym (acts_apart node newest older other) ∙ none
]

-- such a node is as it was
untouched : (first : World) (acts : List (ℕ × Act)) (node : ℕ) → acts_of node acts ≡ [] →
    ((reached first acts).actors node ≡ first.actors node) × ((reached first acts).records node ≡ first.records node)
untouched first [] node none = (refl, refl)
untouched first (newest ∷ older) node none =
    let before = untouched first older node (none_before node newest older none) in
    let apart : node ≡ newest.0 → ⊥ = λ same. not_none node newest older none (sym same) in
    (actor_apart (reached first older) newest.0 newest.1 node apart ∙ before.0, record_apart (reached first older) newest.0 newest.1 node apart ∙ before.1)
  where
    record_apart : (w : World) (other : ℕ) (act : Act) (node : ℕ) → (node ≡ other → ⊥) → (after w other act).records node ≡ w.records node
    record_apart w other act node apart = elim (changed_cases w.records other (records_by (w.records other) act) node)
        [ inl here ↦ absurd (apart here.0) | inr elsewhere ↦ elsewhere ]

abbrev Old : (ℕ → Bool) → ℕ → Type 0
Old fresh node = fresh node ≡ false

abbrev none_at_all : World
none_at_all = start 0 (λ node. 1)

nothing_behind : (xs : List Packet) → xs ≡ xs ++ []
nothing_behind [] = refl
nothing_behind (x ∷ xs) = ap (λ (ys : List Packet). x ∷ ys) (nothing_behind xs)

reserialled : (nodes : ℕ) (serials others : ℕ → ℕ) (fresh : ℕ → Bool) (acts : List (ℕ × Act)) →
    ((node : ℕ) → fresh node ≡ true → acts_of node acts ≡ []) → ((node : ℕ) → fresh node ≡ false → others node ≡ serials node) →
    IsRun (start nodes serials) acts →
    IsRun (start nodes others) acts × GoesBeyond (Old fresh) (reached (start nodes serials) acts) (reached (start nodes others) acts) none_at_all
reserialled nodes serials others fresh [] new same run = (
  tt,
  record {
    nodes = refl;
    packets = refl;
    votes = refl;
    records = λ node of. refl;
    actors = λ node of. ap (opened 1) (same node of);
  },
)
reserialled nodes serials others fresh (newest ∷ older) new same run =
    let before = reserialled nodes serials others fresh older (λ node is. none_before node newest older (new node is)) same run.1 in
    let of : Old fresh newest.0 = elim (cases_Bool (fresh newest.0))
    [ inl is ↦ absurd (not_none newest.0 newest older (new newest.0 is) refl) | inr is ↦ is ] in
    let v = reached (start nodes serials) older in
    let u = reached (start nodes others) older in (
      (may_too (Old fresh) v u none_at_all before.1 newest.0 newest.1 of run.0, before.0),
      beyond_after
          (Old fresh) v u none_at_all before.1 newest.0 newest.1 of,
    )

-- the run with the serials with which its nodes are opened
module _ (run : Run) (fresh : ℕ → Bool) (lost serials : ℕ → ℕ) (left : AreLeft run fresh lost) where
  abbrev firsts : ℕ → ℕ
  firsts = serials_over run.serials fresh serials

  again : IsRun (start run.nodes firsts) run.acts × GoesBeyond (Old fresh) (world_of run) (reached (start run.nodes firsts) run.acts) none_at_all
  again = reserialled run.nodes run.serials firsts fresh run.acts left.new
      (λ node is. ap (λ (b : Bool). if b then serials node else run.serials node) is) run.may

  abbrev run_again : Run
  run_again = record { nodes = run.nodes; serials = firsts; acts = run.acts; may = again.0 }

  records_again : (world_of run_again).records ≡ (world_of run).records
  records_again = λ i node. at node i
    where
      at : (node : ℕ) → (reached (start run.nodes firsts) run.acts).records node ≡ (world_of run).records node
      at node = elim (cases_Bool (fresh node)) [
        | inl new ↦ (untouched (start run.nodes firsts) run.acts node (left.new node new)).1 ∙ sym
            (untouched (start run.nodes run.serials) run.acts node (left.new node new)).1
        | inr old ↦ again.1.records node old
      ]

  opened_again : opened_in (world_of run_again) fresh lost ≡ opened_in (world_of run) fresh lost
  opened_again = λ i node. at node i
    where
      at : (node : ℕ) → opened_in (world_of run_again) fresh lost node ≡ opened_in (world_of run) fresh lost node
      at node = elim (cases_Bool (fresh node)) [
        | inl new ↦ ap (λ (b : Bool). if b then 1 else suc (((world_of run_again).actors node).incarnation + lost node)) new ∙ sym
            (ap (λ (b : Bool). if b then 1 else suc (((world_of run).actors node).incarnation + lost node)) new)
        | inr old ↦ ap (λ (a : Actor). if fresh node then 1 else suc (a.incarnation + lost node)) (again.1.actors node old)
      ]

  left_again : IsLeft (world_of run_again) fresh lost serials
  left_again = record {
    new = λ node new. (untouched (start run.nodes firsts) run.acts node (left.new node new)).0 ∙ ap (opened 1)
        (ap (λ (b : Bool). if b then serials node else run.serials node) new);
    old = λ node old. subst (λ (a : Actor). a.incarnation + lost node < 9999) (sym (again.1.actors node old)) (left.old node old);
  }

  over_again : over run_again fresh lost serials ≡ over run fresh lost serials
  over_again = λ i. start_over run.nodes (records_again i) (opened_again i) serials

  pub goes_on_old : (later : List (ℕ × Act)) → IsRun (over run fresh lost serials) later →
      IsRun (start run.nodes firsts) (later ++ (openings run.nodes fresh lost serials ++ run.acts))
  goes_on_old later after = (goes_on_over run_again fresh lost serials later left_again (subst (λ (w : World). IsRun w later) (sym over_again) after)).0

  pub numbered_old : (later : List (ℕ × Act)) → IsRun (over run fresh lost serials) later →
      (reached (start run.nodes firsts) (later ++ (openings run.nodes fresh lost serials ++ run.acts))).packets ≡
      (reached (over run fresh lost serials) later).packets ++ (world_of run).packets
  numbered_old later after =
      numbered_on run_again fresh lost serials later left_again (subst (λ (w : World). IsRun w later) (sym over_again) after)
      ∙ (λ i. (reached (over_again i) later).packets ++ packets_again i)
    where
      packets_again : (world_of run_again).packets ≡ (world_of run).packets
      packets_again = again.1.packets ∙ sym (nothing_behind (world_of run).packets)
