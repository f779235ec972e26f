-- What a node does by an input, as a step of the world.
use Rattle.std.proofs.Common.{◌≡◌, ◌⊎◌, ℕ, zero, suc, ◌<◌, ◌≤◌, Bool, true, false, List, [], ◌∷◌, ◌++◌, length, map, Option, Some, None}
use Rattle.std.proofs.Common.{Result, Ok, Err, refl, sym, ap, subst, ◌∙◌, inl, inr, arith}
use Rattle.std.specs.Prelude.{reverse, nat_le, if◌then◌else◌}
use Rattle.std.specs.List.{slice_get}
use Rattle.std.proofs.lemmas.Bool.Decides.{nat_tests}
use Rattle.mc_model.specs.synod.Lists.{In}
use Rattle.mc_model.specs.synod.Packet.{Packet}
use Rattle.mc_model.specs.node.Actor.{Request as Asked}
use Rattle.mc_model.specs.node.Input.{Input}
use Rattle.mc_model.specs.node.Setup.{Setup}
use Rattle.mc_model.specs.cluster.Steps.{Cluster, setup_of}
use Rattle.node_model.specs.Kept.{Kept}
use Rattle.node_model.specs.Outputs.{Stepped}
use Rattle.node_model.specs.Stepped.{stepped}
use Rattle.node_laws.specs.Clusters.{KeptCluster, NodeInput, WasSentBefore, comes_to, kept_reached, step_at}
use Rattle.node_laws.specs.Runs.{IsOneOf, MayCome}
use Rattle.node_laws.proofs.invariant.Orders.{mapped_in, reverse_in}
use Rattle.pdu_tables.specs.declared.status.Status.{Status}
use Rattle.desk.specs.Admissions.{admitted}
use Rattle.desk.specs.Arrivals.{door_at, judged_as, next_id}
use Rattle.synod_acceptor.specs.Packets.{packet_of}
use Rattle.synod_acceptor.specs.declared.packet.Packet.{Packet as Sent}
use Rattle.node_runs.specs.StepFault.{StepFault}
use Rattle.node_runs.specs.Input.{Input as Given}
use Rattle.node_runs.specs.Input.TheVariants as given
use Rattle.node_runs.specs.Keeping.{kept_of}
use Rattle.node_runs.specs.Steps.{GrantsKnown, IsFault as IsStepFault, input_of, refused_by}
use Rattle.sim_net.specs.Network.{numbered}
use Rattle.world.specs.declared.fault.WorldFault.{WorldFault}
use Rattle.world.specs.declared.fault.WorldFault.TheVariants as faults
use Rattle.world.specs.declared.given.Given.{Given as Gives}
use Rattle.world.specs.Members.{DoesNotTake, HasTaken, IsPlace, IsSentIn, away_in, down_in, fault_from, step_by}
use Rattle.world.specs.Runs.{IsAt, IsGiven, IsMember, StandsAs, absent, away, down, or_else}
use Rattle.world.specs.Scenes.{Placed, Scene}
use Rattle.node_runs.proofs.Running.{up_for}
use Rattle.world.proofs.Going.{goes_on}

-- ---- a packet that was sent in this world was sent

in_front : {A : Type 0} (xs ys : List A) (x : A) → In x xs → In x (xs ++ ys)
in_front [] ys x none = absurd none
in_front (y ∷ xs) ys x (inl same) = inl same
in_front (y ∷ xs) ys x (inr later) = inr (in_front xs ys x later)

judged_sent : (packets : List Packet) (judged : Result Asked Status) → WasSentBefore packets (judged_as judged)
judged_sent packets (Ok request) = tt
judged_sent packets (Err status) = tt

-- ---- whether a node is up, and what stands for it

pub stands_up : (k : Kept) (up : Bool) (m : Placed) → StandsAs k up m.node → k.up ≡ up
stands_up k true m stands = ap (λ (kept : Kept). kept.up) (sym stands)
stands_up k false m stands = stands.down

module _ (cluster : Cluster) (behind : List Packet) (inputs : List NodeInput) (old : Scene) (now : IsAt cluster behind inputs old) where
  abbrev here : KeptCluster
  here = kept_reached cluster inputs

  abbrev input_at : ℕ → Given → Input
  input_at node input = input_of (setup_of cluster node) (here.kept node) input

  pub sent_in : (packet : Sent) → In packet old.packets → In (packet_of packet) here.packets
  sent_in packet is =
      subst (In (packet_of packet)) (sym now.packets)
      (in_front (reverse (map packet_of old.packets)) behind (packet_of packet)
      (reverse_in (packet_of packet) (map packet_of old.packets) (mapped_in packet_of old.packets packet is)))

  was_sent : (setup : Setup) (k : Kept) (input : Given) → IsSentIn old input → WasSentBefore here.packets (input_of setup k input)
  was_sent setup k (given.Packet packet) sent = sent_in packet sent
  was_sent setup k (given.Request account request) sent = judged_sent here.packets (admitted (door_at setup k) (next_id setup k) account request)
  was_sent setup k (given.Grant id) sent = tt
  was_sent setup k (given.Answered slot outcome) sent = tt
  was_sent setup k (given.Tick moment reach) sent = tt

  -- ---- a node that is up

  member_of : (node place : ℕ) (m : Placed) → IsPlace old node place m → IsMember (setup_of cluster node) (here.kept node) m
  member_of node place m is =
      let one : node ≡ suc place = omega (arith, is.place_is) in
      now.members node m (subst (λ (n : ℕ). numbered old.members n ≡ Some m) (sym one) is.found)

  pub kept_up : (node place : ℕ) (m : Placed) → IsPlace old node place m → m.up ≡ true → kept_of m.node.kept ≡ here.kept node
  kept_up node place m is up = subst (λ (b : Bool). StandsAs (here.kept node) b m.node) up (member_of node place m is).stands

  pub setup_up : (node place : ℕ) (m : Placed) → IsPlace old node place m → m.node.kept.setup ≡ setup_of cluster node
  setup_up node place m is = (member_of node place m is).setup_is

  pub is_up : (node place : ℕ) (m : Placed) → IsPlace old node place m → m.up ≡ true → (here.kept node).up ≡ true
  is_up node place m is up = ap (λ (k : Kept). k.up) (sym (kept_up node place m is up))

  -- ---- why nothing comes to a node

  pub present : (node place : ℕ) (m : Placed) → IsPlace old node place m → absent cluster node ≡ None
  present node place m is =
      let inside = inside_of old.members place m is.found in
      let few : (nat_le node cluster.nodes) ≡ true = let count = now.nodes in let here_is = is.place_is in grind (arith, nat_tests) in
      ap (λ (b : Bool). if b then None else Some faults.NoSuchNode) few
    where
      inside_of : (xs : List Placed) (k : ℕ) (x : Placed) → slice_get xs k ≡ Some x → k < length xs
      inside_of [] k x found = absurd cc
      inside_of (y ∷ xs) zero x found = omega arith
      inside_of (y ∷ xs) (suc k) x found = omega (arith, inside_of xs k x found)

  pub away_none : (node place : ℕ) (m : Placed) → IsPlace old node place m → m.up ≡ true → away cluster here node ≡ None
  away_none node place m is up =
      (λ i. or_else (present node place m is i) (down here node))
      ∙ ap (λ (b : Bool). if b then None else Some faults.Down) (is_up node place m is up)

  away_at : (place : ℕ) (found : Option Placed) → slice_get old.members place ≡ found → down_in found ≡ away cluster here (suc place)
  away_at place None none = sym (ap (λ (b : Bool). or_else (if b then None else Some faults.NoSuchNode) (down here (suc place))) beyond)
    where
      all_in : (xs : List Placed) (k : ℕ) → slice_get xs k ≡ None → length xs ≤ k
      all_in [] k is = omega arith
      all_in (x ∷ xs) zero is = absurd cc
      all_in (x ∷ xs) (suc k) is = omega (arith, all_in xs k is)

      beyond : nat_le (suc place) cluster.nodes ≡ false
      beyond = let past = all_in old.members place none in let count = now.nodes in grind (arith, nat_tests)
  away_at place (Some m) found =
      let is : IsPlace old (suc place) place m = record { place_is = omega arith; found = found } in
      let member = now.members (suc place) m found in
      sym ((λ i. or_else (present (suc place) place m is i) (down here (suc place)))
      ∙ ap (λ (b : Bool). if b then None else Some faults.Down) (stands_up (here.kept (suc place)) m.up m member.stands))

  pub away_is : (node : ℕ) → 1 ≤ node → away_in old node ≡ away cluster here node
  away_is zero least = absurd (omega arith)
  away_is (suc place) least = away_at place (slice_get old.members place) refl

  -- ---- a step that is taken

  pub record IsTaken (node : ℕ) (input : Given) (gives : Gives) (new : Scene) : Type 0 where
    pub present : away cluster here node ≡ None
    pub allowed : refused_by (setup_of cluster node) (here.kept node) input ≡ None
    pub at_then : IsAt cluster behind (comes_to node (input_at node input) ∷ inputs) new
    pub given_is : IsGiven gives (step_at cluster here (comes_to node (input_at node input))).outputs
    pub granted : GrantsKnown (here.kept node) input gives.granted

  step_is : (node place : ℕ) (m : Placed) → IsPlace old node place m → m.up ≡ true → (input : Given) →
      step_by m input ≡ step_at cluster here (comes_to node (input_at node input))
  step_is node place m is up input =
      λ i. stepped (setup_up node place m is i) (kept_up node place m is up i) (input_of (setup_up node place m is i) (kept_up node place m is up i) input)

  pub taken : (node : ℕ) (input : Given) (gives : Gives) (new : Scene) → IsSentIn old input → HasTaken old node input gives new → IsTaken node input gives new
  taken node input gives new sent has =
      let setup = setup_up node has.place has.member has.is in
      let kept = kept_up node has.place has.member has.is has.up in
      let step = step_is node has.place has.member has.is has.up input in
      let may : MayCome (setup_of cluster node) (here.kept node) (input_at node input) =
      subst (λ (k : Kept). MayCome (setup_of cluster node) k (input_of (setup_of cluster node) k input)) kept
      (subst (λ (s : Setup). MayCome s (kept_of has.member.node.kept) (input_of s (kept_of has.member.node.kept) input)) setup has.sent.may) in
      let member : IsMember (setup_of cluster node) (step_at cluster here (comes_to node (input_at node input))).kept has.after = record {
        setup_is = has.sent.setup ∙ setup;
        stands = subst (λ (b : Bool). StandsAs (step_at cluster here (comes_to node (input_at node input))).kept b has.after.node) (sym has.sent.up)
            (has.sent.kept ∙ ap (λ (s : Stepped). s.kept) step);
      } in
      record {
        present = away_none node has.place has.member has.is has.up;
        allowed = subst (λ (k : Kept). refused_by (setup_of cluster node) k input ≡ None) kept
            (subst (λ (s : Setup). refused_by s (kept_of has.member.node.kept) input ≡ None) setup has.sent.allowed);
        at_then = goes_on cluster behind inputs old now node has.place (input_at node input) has.after new.packets new has.is.place_is
            (subst IsOneOf setup has.sent.one)
            (up_for (here.kept node) (input_at node input) (is_up node has.place has.member has.is has.up))
            may
            (was_sent (setup_of cluster node) (here.kept node) input sent)
            member has.changed refl
            (has.sent.packets ∙ ap (λ (s : Stepped). map packet_of old.packets ++ s.outputs.packets) step);
        given_is = subst (λ (s : Stepped). IsGiven gives s.outputs) step has.sent.gives;
        granted = subst (λ (k : Kept). GrantsKnown k input gives.granted) kept has.sent.granted;
      }

  -- ---- a step that is not taken

  refused_at : (node place : ℕ) (m : Placed) → IsPlace old node place m → m.up ≡ true → (input : Given) →
      refused_by m.node.kept.setup (kept_of m.node.kept) input ≡ refused_by (setup_of cluster node) (here.kept node) input
  refused_at node place m is up input = λ i. refused_by (setup_up node place m is i) (kept_up node place m is up i) input

  pub record IsNotTaken (node : ℕ) (input : Given) (fault : WorldFault) : Type 0 where
    pub why : (away cluster here node ≡ Some fault)
        ⊎ ((away cluster here node ≡ None)
        × ((cause : StepFault) × IsStepFault (refused_by (setup_of cluster node) (here.kept node) input) cause × (fault ≡ fault_from cause)))

  pub not_taken : (node : ℕ) (input : Given) (fault : WorldFault) → 1 ≤ node → DoesNotTake old node input fault → IsNotTaken node input fault
  not_taken node input fault least (inl is) = record { why = inl (sym (away_is node least) ∙ is) }
  not_taken node input fault least (inr has) = record {
    why = inr (
      away_none node has.place has.member has.is has.up,
      (
        has.cause,
        subst (λ (o : Option StepFault). IsStepFault o has.cause) (refused_at node has.place has.member has.is has.up input) has.refused,
        has.fault_is,
      ),
    );
  }
