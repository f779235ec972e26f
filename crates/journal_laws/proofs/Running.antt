-- If each node's part of a journal is its own run, the whole is a run of the cluster.
use Rattle.std.proofs.Common.{◌≡◌, ℕ, ◌+◌, ◌<◌, ◌≤◌, Bool, true, false, List, [], ◌∷◌, ◌++◌, length, Option, Some, None, Result, Ok, Err, IfSome}
use Rattle.std.proofs.Common.{refl, sym, ap, subst, ◌∙◌, inl, inr, arith, append_assoc, length-append, eqb-true, eq-eqb}
use Rattle.std.specs.Prelude.{reverse, map, filter, option_map, is_some, not, cond, nat_le, nat_lt, ◌==◌, ◌&&◌, if◌then◌else◌}
use Rattle.std.specs.List.{flat_map}
use Rattle.std.proofs.lemmas.Bool.Decides.{nat_tests}
use Rattle.std.proofs.lemmas.List.{reverse-append}
use Rattle.mc_model.specs.synod.Lists.{In}
use Rattle.mc_model.specs.synod.Packet.{Packet}
use Rattle.mc_model.specs.node.Actor.{Request}
use Rattle.mc_model.specs.node.Input.{Crash, Delivery, Input}
use Rattle.mc_model.specs.node.Outputs.{Outputs}
use Rattle.mc_model.specs.cluster.Steps.{Cluster, setup_of}
use Rattle.mc_model.specs.cluster.World.{changed}
use Rattle.mc_parts.proofs.Membership.{in_either}
use Rattle.mc_laws.proofs.invariant.Growth.{changed_here}
use Rattle.node_model.specs.Kept.{Kept}
use Rattle.node_laws.specs.Clusters.{KeptCluster, MayHappen, NodeInput, WasSentBefore, comes_to, kept_reached, step_at}
use Rattle.node_laws.specs.Runs.{IsUpFor, MayCome}
use Rattle.node_laws.proofs.cluster.Sources.{in_cut}
use Rattle.desk.specs.Arrivals.{judged_as}
use Rattle.node_core.specs.Attempting.{reason_of}
use Rattle.node_core.specs.Stops.{is_after}
use Rattle.pdu_tables.specs.declared.status.Status.{Status}
use Rattle.world_runs.specs.WorldFault.TheVariants as faults
use Rattle.world_runs.specs.Step.{Step}
use Rattle.world_runs.specs.Step.TheVariants as steps
use Rattle.world_runs.specs.Runs.{Comes, IsGiven, absent, away, or_else, refusal_of, last_incarnation, unsent}
use Rattle.world_runs.specs.Taking.{node_at}
use Rattle.world_runs.specs.Traces.{Reaches}
use Rattle.journal_laws.specs.Journals.{ComesBy, Done, Entry, IsJournal, IsInRange, HasItsNumber, IsOwnRun, RunsOn, Unfinished, CameAsSent, WereSent}
use Rattle.journal_laws.specs.Journals.{done_in, entries_at, outputs_done, steps_for, stop_of}

-- ---- what comes by a step

-- the input of a packet is what comes
input_is : (x input : Input) → Some x ≡ Some input → input ≡ x
input_is x input same = cc

-- a request comes to a node that is up, and no packet by it
up_judged : (k : Kept) (r : Result Request Status) → IsUpFor k (judged_as r) → k.up ≡ true
up_judged k (Ok request) up = up
up_judged k (Err status) up = up

sent_judged : (packets : List Packet) (r : Result Request Status) → WasSentBefore packets (judged_as r)
sent_judged packets (Ok request) = record {}
sent_judged packets (Err status) = record {}

module _ (cluster : Cluster) (behind : ℕ) (w : KeptCluster) where
  present : (node : ℕ) → IsInRange cluster node → absent cluster node ≡ None
  present node one =
      let most = one.1 in
      let few : nat_le node cluster.nodes ≡ true = grind (arith, nat_tests) in
      ap (λ (b : Bool). if b then None else Some faults.NoSuchNode) few

  at_work : (node : ℕ) → IsInRange cluster node → (w.kept node).up ≡ true → away cluster w node ≡ None
  at_work node one up i = or_else (present node one i) (if up i then None else Some faults.Down)

  was_sent : (number : ℕ) (packet : Packet) → HasItsNumber behind w.packets number packet → unsent behind w number ≡ None
  was_sent number packet is =
      let least = is.0 in
      let place = is.1.number_is in
      let all = ap length is.1.split ∙ length-append is.1.newer (packet ∷ is.1.older) in
      let within : (nat_lt 0 number && nat_le (number + behind) (length w.packets)) ≡ true = grind (arith, nat_tests) in
      ap (λ (b : Bool). if b then None else Some faults.NoSuchPacket) within

  among_sent : (number : ℕ) (packet : Packet) → HasItsNumber behind w.packets number packet → In packet w.packets
  among_sent number packet is = subst (In packet) (sym is.1.split) (in_cut is.1.newer is.1.older packet)

  -- what may come by a step is not refused
  not_refused : (step : Step) (packet : Option Packet) (input : Input) →
      ComesBy (setup_of cluster (node_at step)) (w.kept (node_at step)) step packet input →
      IsInRange cluster (node_at step) → IsUpFor (w.kept (node_at step)) input →
      MayCome (setup_of cluster (node_at step)) (w.kept (node_at step)) input → IfSome packet (CameAsSent behind w.packets step) →
      refusal_of cluster behind w step ≡ None
  not_refused (steps.Deliver number node) None input comes one up may sent = absurd cc
  not_refused (steps.Deliver number node) (Some packet) input comes one up may sent =
      let here = at_work node one (subst (IsUpFor (w.kept node)) (input_is (Delivery packet) input comes) up) in
      λ i. or_else (was_sent number packet sent i) (here i)
  not_refused (steps.Request node account request) packet input comes one up may sent =
      at_work node one (up_judged (w.kept node) _ (subst (IsUpFor (w.kept node)) comes up))
  not_refused (steps.Tick node moment accounts) packet input comes one up may sent = at_work node one (subst (IsUpFor (w.kept node)) comes up)
  not_refused (steps.Grant node id) packet input comes one up may sent =
      let here = at_work node one (subst (IsUpFor (w.kept node)) comes up) in
      let allowed = subst (MayCome (setup_of cluster node) (w.kept node)) comes may in
      λ i. or_else (here i) (option_map (λ refusal. faults.Grant (reason_of refusal)) (allowed.allowed i))
  not_refused (steps.Answered node slot outcome) packet input comes one up may sent =
      let here = at_work node one (subst (IsUpFor (w.kept node)) comes up) in
      let open_here = subst (MayCome (setup_of cluster node) (w.kept node)) comes may in
      λ i. or_else (here i) (if (open_here.granted i && not (is_some (open_here.closed i))) then None else Some faults.NotGranted)
  not_refused (steps.Crash node number found) None input comes one up may sent = absurd cc
  not_refused (steps.Crash node number found) (Some packet) input comes one up may sent =
      let here = at_work node one (subst (IsUpFor (w.kept node)) (input_is (Crash packet (is_after found)) input comes) up) in
      λ i. or_else (was_sent number packet sent i) (here i)
  not_refused (steps.Restart node) packet input comes one up may sent =
      let below : (w.kept node).incarnation + comes.0 < 9999 = subst (MayCome (setup_of cluster node) (w.kept node)) comes.1 may in
      let left : nat_lt (w.kept node).incarnation last_incarnation ≡ true = grind (arith, nat_tests) in
      λ i. or_else (present node one i) (if left i then None else Some faults.Spent)

  -- it comes by a step of the world
  comes_so : (step : Step) (packet : Option Packet) (input : Input) →
      ComesBy (setup_of cluster (node_at step)) (w.kept (node_at step)) step packet input → IfSome packet (CameAsSent behind w.packets step) →
      Comes cluster behind w step (comes_to (node_at step) input)
  comes_so (steps.Deliver number node) None input comes sent = absurd cc
  comes_so (steps.Deliver number node) (Some packet) input comes sent = (packet, sent.1, ap (comes_to node) (input_is (Delivery packet) input comes))
  comes_so (steps.Request node account request) packet input comes sent = ap (comes_to node) comes
  comes_so (steps.Tick node moment accounts) packet input comes sent = ap (comes_to node) comes
  comes_so (steps.Grant node id) packet input comes sent = ap (comes_to node) comes
  comes_so (steps.Answered node slot outcome) packet input comes sent = ap (comes_to node) comes
  comes_so (steps.Crash node number found) None input comes sent = absurd cc
  comes_so (steps.Crash node number found) (Some packet) input comes sent =
      (packet, sent.1, ap (comes_to node) (input_is (Crash packet (is_after found)) input comes))
  comes_so (steps.Restart node) packet input comes sent = (comes.0, ap (comes_to node) comes.1)

  -- and its packet was sent
  packet_sent : (step : Step) (packet : Option Packet) (input : Input) →
      ComesBy (setup_of cluster (node_at step)) (w.kept (node_at step)) step packet input → IfSome packet (CameAsSent behind w.packets step) →
      WasSentBefore w.packets input
  packet_sent (steps.Deliver number node) None input comes sent = absurd cc
  packet_sent (steps.Deliver number node) (Some packet) input comes sent =
      subst (WasSentBefore w.packets) (sym (input_is (Delivery packet) input comes)) (among_sent number packet sent)
  packet_sent (steps.Request node account request) packet input comes sent = subst (WasSentBefore w.packets) (sym comes) (sent_judged w.packets _)
  packet_sent (steps.Tick node moment accounts) packet input comes sent = subst (WasSentBefore w.packets) (sym comes) (record {})
  packet_sent (steps.Grant node id) packet input comes sent = subst (WasSentBefore w.packets) (sym comes) (record {})
  packet_sent (steps.Answered node slot outcome) packet input comes sent = subst (WasSentBefore w.packets) (sym comes) (record {})
  packet_sent (steps.Crash node number found) None input comes sent = absurd cc
  packet_sent (steps.Crash node number found) (Some packet) input comes sent =
      subst (WasSentBefore w.packets) (sym (input_is (Crash packet (is_after found)) input comes)) (among_sent number packet sent)
  packet_sent (steps.Restart node) packet input comes sent = subst (WasSentBefore w.packets) (sym comes.1) (record {})

-- ---- steps of all nodes

abbrev pub of_node : ℕ → List Done → List Done
of_node node taken = filter (λ done. node_at done.step == node) taken

given_so : (done : Done) (outputs : Outputs) → outputs ≡ outputs_done done → done.given.packets ≡ length done.sent → IsGiven done.given outputs
given_so done outputs same count = record {
  others = λ i. record (sym same i) { packets = [] };
  packets = count ∙ ap (λ (o : Outputs). length o.packets) (sym same);
}

pub packets_more : (before sent others gave : List Packet) → gave ≡ sent → reverse others ++ (reverse gave ++ before) ≡ reverse (sent ++ others) ++ before
packets_more before sent others gave same =
    ap (λ (ps : List Packet). reverse others ++ (reverse ps ++ before)) same
    ∙ sym (append_assoc (reverse others) (reverse sent) before)
    ∙ ap (λ (ps : List Packet). ps ++ before) (sym (reverse-append sent others))

module _ (cluster : Cluster) (few : cluster.nodes ≤ 9) (behind : List Packet) (ends : ℕ → Kept) where
  abbrev OwnRuns : (ℕ → Kept) → List Done → Type 0
  OwnRuns kept taken = (node : ℕ) → IsInRange cluster node → IsOwnRun (setup_of cluster node) (kept node) (of_node node taken) (ends node)

  -- where a run goes by such steps
  pub record RunsBy (inputs : List NodeInput) (taken : List Done) : Type 0 where
    pub last : List NodeInput
    pub reaches : Reaches cluster behind inputs (map (λ done. done.step) taken) (map (λ done. Ok done.given) taken) last
    pub may : MayHappen cluster last
    pub kept : (node : ℕ) → IsInRange cluster node → (kept_reached cluster last).kept node ≡ ends node
    pub packets : (kept_reached cluster last).packets ≡ reverse (flat_map (λ done. done.sent) taken) ++ (kept_reached cluster inputs).packets

  -- the first step is one of its node's own run
  own_first : (kept : ℕ → Kept) (done : Done) (later : List Done) → OwnRuns kept (done ∷ later) → IsInRange cluster (node_at done.step) →
      IsOwnRun (setup_of cluster (node_at done.step)) (kept (node_at done.step)) (done ∷ of_node (node_at done.step) later) (ends (node_at done.step))
  own_first kept done later own one =
      let node = node_at done.step in
      subst (λ (b : Bool). IsOwnRun (setup_of cluster node) (kept node) (cond b (done ∷ of_node node later) (of_node node later)) (ends node))
      (eq-eqb node node refl) (own node one)

  -- and from what it leaves each node's others are its own run
  own_later : (kept : ℕ → Kept) (done : Done) (later : List Done) → OwnRuns kept (done ∷ later) → (new : Kept) →
      IsOwnRun (setup_of cluster (node_at done.step)) new (of_node (node_at done.step) later) (ends (node_at done.step)) →
      OwnRuns (changed kept (node_at done.step) new) later
  own_later kept done later own new mine other one = by_test (node_at done.step == other) refl
    where
      by_test : (b : Bool) → (node_at done.step == other) ≡ b →
          IsOwnRun (setup_of cluster other) (changed kept (node_at done.step) new other) (of_node other later) (ends other)
      by_test true test =
          subst (λ (n : ℕ). IsOwnRun (setup_of cluster n) (changed kept (node_at done.step) new n) (of_node n later) (ends n))
          (eqb-true (node_at done.step) other test)
          (subst (λ (k : Kept). IsOwnRun (setup_of cluster (node_at done.step)) k (of_node (node_at done.step) later) (ends (node_at done.step)))
          (sym (changed_here kept (node_at done.step) new)) mine)
      by_test false test =
          let apart : (other == node_at done.step) ≡ false = grind (arith, nat_tests) in
          subst (λ (b : Bool). IsOwnRun (setup_of cluster other) (if b then new else kept other) (of_node other later) (ends other)) (sym apart)
          (subst (λ (b : Bool). IsOwnRun (setup_of cluster other) (kept other) (cond b (done ∷ of_node other later) (of_node other later)) (ends other)) test
          (own other one))

  pub goes_on : (inputs : List NodeInput) (taken : List Done) → MayHappen cluster inputs →
      ((done : Done) → In done taken → IsInRange cluster (node_at done.step)) → OwnRuns (kept_reached cluster inputs).kept taken →
      WereSent (length behind) (kept_reached cluster inputs).packets taken → RunsBy inputs taken
  goes_on inputs [] may nodes own sent = record { last = inputs; reaches = refl; may = may; kept = λ node one. sym (own node one); packets = refl }
  goes_on inputs (done ∷ later) may nodes own sent =
      let w = kept_reached cluster inputs in
      let node = node_at done.step in
      let one = nodes done (inl refl) in
      let mine = own_first w.kept done later own one in
      let first = mine.0 in
      let next = comes_to node first.input in
      let gave : (step_at cluster w next).outputs.packets ≡ done.sent = ap (λ (o : Outputs). o.packets) first.gives in
      let on = goes_on (next ∷ inputs) later (
        record { least = one.0; most = one.1; few = few },
        first.up,
        first.may,
        packet_sent cluster (length behind) w done.step done.packet first.input first.comes sent.0,
        may,
      )
      (λ other among. nodes other (inr among))
      (own_later w.kept done later own (step_at cluster w next).kept mine.1)
      (subst (λ (ps : List Packet). WereSent (length behind) (reverse ps ++ w.packets) later) (sym gave) sent.1) in
      record {
        last = on.last;
        reaches = (
          next,
          not_refused cluster (length behind) w done.step done.packet first.input first.comes one first.up first.may sent.0,
          comes_so cluster (length behind) w done.step done.packet first.input first.comes sent.0,
          given_so done (step_at cluster w next).outputs first.gives first.count,
          on.reaches,
        );
        may = on.may;
        kept = on.kept;
        packets = on.packets ∙ packets_more w.packets done.sent (flat_map (λ other. other.sent) later) (step_at cluster w next).outputs.packets gave;
      }

-- ---- steps of entries

-- a stop and a start anew are both of their node
twice : (node : ℕ) (done : Done) (save : Unfinished) (later : List Done) (b : Bool) → (node_at done.step == node) ≡ b →
    of_node node (steps_for done (Some save) ++ later) ≡ cond b (steps_for done (Some save)) [] ++ of_node node later
twice node done save later true test =
    ap (λ (b : Bool). cond b (stop_of done save ∷ cond b (done ∷ of_node node later) (of_node node later))
    (cond b (done ∷ of_node node later) (of_node node later))) test
twice node done save later false test =
    ap (λ (b : Bool). cond b (stop_of done save ∷ cond b (done ∷ of_node node later) (of_node node later))
    (cond b (done ∷ of_node node later) (of_node node later))) test

-- those of one node are those of its entries
own_steps_for : (node : ℕ) (done : Done) (save : Option Unfinished) (later : List Done) (b : Bool) → (node_at done.step == node) ≡ b →
    of_node node (steps_for done save ++ later) ≡ cond b (steps_for done save) [] ++ of_node node later
own_steps_for node done None later true test = ap (λ (b : Bool). cond b (done ∷ of_node node later) (of_node node later)) test
own_steps_for node done None later false test = ap (λ (b : Bool). cond b (done ∷ of_node node later) (of_node node later)) test
own_steps_for node done (Some save) later true test = twice node done save later true test
own_steps_for node done (Some save) later false test = twice node done save later false test

pub own_steps : (node : ℕ) (entries : List Entry) → of_node node (done_in entries) ≡ done_in (entries_at node entries)
own_steps node [] = refl
own_steps node (entry ∷ entries) = by_test (node_at entry.done.step == node) refl (own_steps node entries)
  where
    by_test : (b : Bool) → (node_at entry.done.step == node) ≡ b → of_node node (done_in entries) ≡ done_in (entries_at node entries) →
        of_node node (done_in (entry ∷ entries)) ≡ done_in (entries_at node (entry ∷ entries))
    by_test true test rest =
        own_steps_for node entry.done entry.unfinished (done_in entries) true test
        ∙ ap (λ (ds : List Done). steps_for entry.done entry.unfinished ++ ds) rest
        ∙ ap (λ (b : Bool). done_in (cond b (entry ∷ entries_at node entries) (entries_at node entries))) (sym test)
    by_test false test rest =
        own_steps_for node entry.done entry.unfinished (done_in entries) false test
        ∙ rest
        ∙ ap (λ (b : Bool). done_in (cond b (entry ∷ entries_at node entries) (entries_at node entries))) (sym test)

nodes_for : (cluster : Cluster) (done : Done) (save : Option Unfinished) → IsInRange cluster (node_at done.step) → (other : Done) →
    In other (steps_for done save) → IsInRange cluster (node_at other.step)
nodes_for cluster done None one other (inl same) = subst (λ (d : Done). IsInRange cluster (node_at d.step)) (sym same) one
nodes_for cluster done None one other (inr none) = absurd none
nodes_for cluster done (Some save) one other (inl same) = subst (λ (d : Done). IsInRange cluster (node_at d.step)) (sym same) one
nodes_for cluster done (Some save) one other (inr (inl same)) = subst (λ (d : Done). IsInRange cluster (node_at d.step)) (sym same) one
nodes_for cluster done (Some save) one other (inr (inr none)) = absurd none

nodes_in : (cluster : Cluster) (entries : List Entry) → ((entry : Entry) → In entry entries → IsInRange cluster (node_at entry.done.step)) →
    (done : Done) → In done (done_in entries) → IsInRange cluster (node_at done.step)
nodes_in cluster [] nodes done none = absurd none
nodes_in cluster (entry ∷ entries) nodes done among =
    elim (in_either done (steps_for entry.done entry.unfinished) (done_in entries) among) [
      | inl here ↦ nodes_for cluster entry.done entry.unfinished (nodes entry (inl refl)) done here
      | inr later ↦ nodes_in cluster entries (λ other is. nodes other (inr is)) done later
    ]

pub runs_on : (cluster : Cluster) (behind : List Packet) (inputs : List NodeInput) (entries : List Entry) (ends : ℕ → Kept) →
    IsJournal cluster behind inputs entries ends → RunsOn cluster behind inputs entries ends
runs_on cluster behind inputs entries ends is =
    let kept = (kept_reached cluster inputs).kept in
    let on = goes_on cluster is.few behind ends inputs (done_in entries) is.may (nodes_in cluster entries is.nodes)
    (λ node one. subst (λ (ds : List Done). IsOwnRun (setup_of cluster node) (kept node) ds (ends node)) (sym (own_steps node entries)) (is.own node one))
    is.sent in
    record { last = on.last; reaches = on.reaches; may = on.may; kept = on.kept; packets = on.packets }
