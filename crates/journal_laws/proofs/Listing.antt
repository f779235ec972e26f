-- Each run of a cluster is a journal.
use Rattle.std.proofs.Common.{◌≡◌, ℕ, ◌+◌, ◌≤◌, Bool, true, false, List, [], ◌∷◌, length, Option, Some, None, Ok, IfSome}
use Rattle.std.proofs.Common.{refl, sym, ap, subst, ◌∙◌, inl, inr, arith, eqb-true, eq-eqb}
use Rattle.std.specs.Prelude.{map, cond, nat_lt, nat_le, ◌==◌, ◌&&◌, if◌then◌else◌}
use Rattle.std.proofs.lemmas.Bool.Decides.{nat_tests}
use Rattle.mc_model.specs.synod.Lists.{In}
use Rattle.mc_model.specs.synod.Packet.{Packet}
use Rattle.mc_model.specs.node.Input.{Input, Restart}
use Rattle.mc_model.specs.node.Outputs.{Outputs}
use Rattle.mc_model.specs.cluster.Steps.{Cluster, setup_of}
use Rattle.mc_model.specs.cluster.World.{changed}
use Rattle.mc_laws.proofs.invariant.Growth.{changed_here}
use Rattle.node_model.specs.Kept.{Kept}
use Rattle.node_model.specs.Stepped.{stepped}
use Rattle.node_laws.specs.Clusters.{KeptCluster, MayHappen, NodeInput, comes_to, kept_reached, step_at}
use Rattle.node_laws.proofs.cluster.Sources.{may_until}
use Rattle.world_runs.specs.WorldFault.TheVariants as faults
use Rattle.world_runs.specs.Given.{Given}
use Rattle.world_runs.specs.Step.{Step}
use Rattle.world_runs.specs.Step.TheVariants as steps
use Rattle.world_runs.specs.Runs.{Comes, IsGiven, away, or_else, refusal_of, unsent}
use Rattle.world_runs.specs.Taking.{node_at}
use Rattle.world_runs.specs.Traces.{Answer, Reaches, events_of}
use Rattle.world_runs.proofs.Events.{goes_on_by, reached_by}
use Rattle.journal_laws.specs.Journals.{CameAsSent, ComesBy, Done, Entry, IsInRange, IsOwnRun, IsOwnStep, WereSent}
use Rattle.journal_laws.specs.Journals.{done_in, entries_at}
use Rattle.journal_laws.specs.Joining.{IsListed, plainly}
use Rattle.journal_laws.proofs.Running.{of_node, own_steps}

module _ (cluster : Cluster) (behind : ℕ) (w : KeptCluster) where
  -- a step that is not refused for its packet has one with a number
  has_number : (number node : ℕ) → or_else (unsent behind w number) (away cluster w node) ≡ None → 1 ≤ number
  has_number number node allowed = by_test (nat_lt 0 number) refl
    where
      by_test : (b : Bool) → nat_lt 0 number ≡ b → 1 ≤ number
      by_test true test = grind (arith, nat_tests)
      by_test false test =
          let none : Some faults.NoSuchPacket ≡ None =
          ap (λ (b : Bool). or_else (if b && nat_le (number + behind) (length w.packets) then None else Some faults.NoSuchPacket)
          (away cluster w node)) (sym test)
          ∙ allowed in
          absurd cc

  -- what came by a step, as an entry has it
  pub record IsBrought (step : Step) (next : NodeInput) : Type 0 where
    pub input : Input
    pub next_is : next ≡ comes_to (node_at step) input
    pub packet : Option Packet
    pub comes : ComesBy (setup_of cluster (node_at step)) (w.kept (node_at step)) step packet input
    pub was : IfSome packet (CameAsSent behind w.packets step)

  brought : (step : Step) (next : NodeInput) → refusal_of cluster behind w step ≡ None → Comes cluster behind w step next → IsBrought step next
  brought (steps.Deliver number node) next allowed came =
      record { input = _; next_is = came.2; packet = Some came.0; comes = refl; was = (has_number number node allowed, came.1) }
  brought (steps.Request node account request) next allowed came = record { input = _; next_is = came; packet = None; comes = refl; was = record {} }
  brought (steps.Tick node moment reach) next allowed came = record { input = _; next_is = came; packet = None; comes = refl; was = record {} }
  brought (steps.Grant node id) next allowed came = record { input = _; next_is = came; packet = None; comes = refl; was = record {} }
  brought (steps.Answered node slot outcome) next allowed came = record { input = _; next_is = came; packet = None; comes = refl; was = record {} }
  brought (steps.Crash node number found) next allowed came =
      record { input = _; next_is = came.2; packet = Some came.0; comes = refl; was = (has_number number node allowed, came.1) }
  brought (steps.Restart node) next allowed came =
      record { input = Restart came.0; next_is = came.1; packet = None; comes = (came.0, refl); was = record {} }

abbrev answer : Given → Answer
answer given = Ok given

answers_of : (taken : List Done) → map (λ done. answer done.given) taken ≡ map answer (map (λ done. done.given) taken)
answers_of [] = refl
answers_of (done ∷ later) = ap (λ (answers : List Answer). answer done.given ∷ answers) (answers_of later)

module _ (cluster : Cluster) (behind : List Packet) (last : List NodeInput) (may : MayHappen cluster last) where
  abbrev ends : ℕ → Kept
  ends = (kept_reached cluster last).kept

  record Listed (inputs : List NodeInput) (taken_steps : List Step) (givens : List Given) : Type 0 where
    taken : List Done
    steps_are : map (λ done. done.step) taken ≡ taken_steps
    givens_are : map (λ done. done.given) taken ≡ givens
    nodes : (done : Done) → In done taken → IsInRange cluster (node_at done.step)
    own : (node : ℕ) → IsInRange cluster node →
        IsOwnRun (setup_of cluster node) ((kept_reached cluster inputs).kept node) (of_node node taken) (ends node)
    sent : WereSent (length behind) (kept_reached cluster inputs).packets taken

  module _ (inputs : List NodeInput) (step : Step) (given : Given) (packet : Option Packet) (input : Input) where
    abbrev here : ℕ → Kept
    here = (kept_reached cluster inputs).kept

    abbrev node : ℕ
    node = node_at step

    abbrev next : NodeInput
    next = comes_to node input

    abbrev outputs : Outputs
    outputs = (step_at cluster (kept_reached cluster inputs) next).outputs

    abbrev first : Done
    first = record { step = step; packet = packet; given = given; sent = outputs.packets }

    abbrev own_first : ComesBy (setup_of cluster node) (here node) step packet input → MayHappen cluster (next ∷ inputs) → IsGiven given outputs →
        IsOwnStep (setup_of cluster node) (here node) first
    own_first comes happens gives = record {
      input = input;
      comes = comes;
      up = happens.1;
      may = happens.2;
      gives = ap (λ (o : Outputs). record o { packets = outputs.packets }) (sym gives.others);
      count = gives.packets;
    }

    -- each node's run begins one step earlier
    own_more : (taken : List Done) → ComesBy (setup_of cluster node) (here node) step packet input → MayHappen cluster (next ∷ inputs) →
        IsGiven given outputs → (other : ℕ) →
        IsOwnRun (setup_of cluster other) ((kept_reached cluster (next ∷ inputs)).kept other) (of_node other taken) (ends other) →
        IsOwnRun (setup_of cluster other) (here other) (of_node other (first ∷ taken)) (ends other)
    own_more taken comes happens gives other later = by_test (node == other) refl
      where
        by_test : (b : Bool) → (node == other) ≡ b → IsOwnRun (setup_of cluster other) (here other) (of_node other (first ∷ taken)) (ends other)
        by_test true test =
            let same : node ≡ other = eqb-true node other test in
            let new : Kept = (stepped (setup_of cluster node) (here node) input).kept in
            let mine = subst (λ (n : ℕ). IsOwnRun (setup_of cluster n) (changed here node new n) (of_node n taken) (ends n)) (sym same) later in
            subst (λ (n : ℕ). IsOwnRun (setup_of cluster n) (here n) (of_node n (first ∷ taken)) (ends n)) same
            (subst (λ (b : Bool). IsOwnRun (setup_of cluster node) (here node) (cond b (first ∷ of_node node taken) (of_node node taken)) (ends node))
            (sym (eq-eqb node node refl)) (
              own_first comes happens gives,
              subst (λ (k : Kept). IsOwnRun (setup_of cluster node) k (of_node node taken) (ends node))
                  (changed_here here node new) mine,
            ))
        by_test false test =
            let new : Kept = (stepped (setup_of cluster node) (here node) input).kept in
            let apart : (other == node) ≡ false = grind (arith, nat_tests) in
            subst (λ (b : Bool). IsOwnRun (setup_of cluster other) (here other) (cond b (first ∷ of_node other taken) (of_node other taken)) (ends other))
            (sym test)
            (subst (λ (b : Bool). IsOwnRun (setup_of cluster other) (if b then new else here other) (of_node other taken) (ends other)) apart later)

    -- one step more, in front
    one_more : (later : List Step) (givens : List Given) → ComesBy (setup_of cluster node) (here node) step packet input →
        IfSome packet (CameAsSent (length behind) (kept_reached cluster inputs).packets step) → MayHappen cluster (next ∷ inputs) → IsGiven given outputs →
        Listed (next ∷ inputs) later givens → Listed inputs (step ∷ later) (given ∷ givens)
    one_more later givens comes was happens gives on = record {
      taken = first ∷ on.taken;
      steps_are = λ i. step ∷ on.steps_are i;
      givens_are = λ i. given ∷ on.givens_are i;
      nodes = λ other among. elim among [
        | inl same ↦ subst (λ (d : Done). IsInRange cluster (node_at d.step)) (sym same) (happens.0.least, happens.0.most)
        | inr is ↦ on.nodes other is
      ];
      own = λ other one. own_more on.taken comes happens gives other (on.own other one);
      sent = (was, on.sent);
    }

  listed : (inputs : List NodeInput) (taken : List Step) (givens : List Given) →
      Reaches cluster behind inputs taken (map Ok givens) last → Listed inputs taken givens
  listed inputs [] [] same = record {
    taken = [];
    steps_are = refl;
    givens_are = refl;
    nodes = λ done none. absurd none;
    own = λ node one. ap (λ (is : List NodeInput). (kept_reached cluster is).kept node) same;
    sent = record {};
  }
  listed inputs [] (given ∷ givens) none = absurd none
  listed inputs (step ∷ later) [] none = absurd none
  listed inputs (step ∷ later) (given ∷ givens) r =
      let w = kept_reached cluster inputs in
      let it = brought cluster (length behind) w step r.0 r.1 r.2 in
      let came = comes_to (node_at step) it.input in
      let rest = subst (λ (n : NodeInput). Reaches cluster behind (n ∷ inputs) later (map Ok givens) last) it.next_is r.4 in
      let more = goes_on_by cluster (came ∷ inputs) (events_of later (map Ok givens)) last
      (reached_by cluster behind (came ∷ inputs) later (map Ok givens) last rest) in
      one_more inputs step given it.packet it.input later givens it.comes it.was
      (may_until cluster more.newer (came ∷ inputs) (subst (MayHappen cluster) more.split may))
      (subst (λ (n : NodeInput). IsGiven given (step_at cluster w n).outputs) it.next_is r.3)
      (listed (came ∷ inputs) later givens rest)

  -- each of them is an entry
  done_plainly : (taken : List Done) → done_in (map plainly taken) ≡ taken
  done_plainly [] = refl
  done_plainly (done ∷ later) = ap (λ (ds : List Done). done ∷ ds) (done_plainly later)

  own_plainly : (node : ℕ) (taken : List Done) → of_node node taken ≡ done_in (entries_at node (map plainly taken))
  own_plainly node taken = ap (of_node node) (sym (done_plainly taken)) ∙ own_steps node (map plainly taken)

  done_of : (taken : List Done) (entry : Entry) → In entry (map plainly taken) → In entry.done taken
  done_of [] entry none = none
  done_of (done ∷ later) entry (inl same) = inl (ap (λ (e : Entry). e.done) same)
  done_of (done ∷ later) entry (inr is) = inr (done_of later entry is)

pub is_listed : (cluster : Cluster) (behind : List Packet) (inputs last : List NodeInput) (taken : List Step) (givens : List Given) → cluster.nodes ≤ 9 →
    MayHappen cluster last → Reaches cluster behind inputs taken (map Ok givens) last → IsListed cluster behind inputs taken givens last
is_listed cluster behind inputs last taken givens few may r =
    let it = listed cluster behind last may inputs taken givens r in
    let all = done_plainly cluster behind last may it.taken in
    let way = goes_on_by cluster inputs (events_of taken (map Ok givens)) last (reached_by cluster behind inputs taken (map Ok givens) last r) in
    record {
      entries = map plainly it.taken;
      steps_are = ap (map (λ done. done.step)) all ∙ it.steps_are;
      givens_are = ap (map (λ done. answer done.given)) all ∙ answers_of it.taken ∙ ap (map answer) it.givens_are;
      is = record {
        few = few;
        may = may_until cluster way.newer inputs (subst (MayHappen cluster) way.split may);
        nodes = λ entry among. it.nodes entry.done (done_of cluster behind last may it.taken entry among);
        own = λ node one.
            subst (λ (ds : List Done). IsOwnRun (setup_of cluster node) ((kept_reached cluster inputs).kept node) ds ((kept_reached cluster last).kept node))
            (own_plainly cluster behind last may node it.taken) (it.own node one);
        sent = subst (WereSent (length behind) (kept_reached cluster inputs).packets) (sym all) it.sent;
      };
    }
