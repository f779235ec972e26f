-- One run behind another, and runs of steps.
use Rattle.std.proofs.Common.{◌≡◌, ℕ, List, [], ◌∷◌, ◌++◌, refl, sym, ◌∙◌, ap, subst, append_assoc}
use Rattle.mc_model.specs.synod.Acceptor.{Records}
use Rattle.mc_model.specs.node.Actor.{Actor}
use Rattle.mc_model.specs.node.Act.{Act}
use Rattle.mc_model.specs.node.Effect.{actor_by, did, packets_by, records_by, saved}
use Rattle.mc_model.specs.node.Outputs.{packets_in}
use Rattle.mc_model.specs.cluster.World.{World, Run, May, after, reached, start, IsRun}
use Rattle.mc_model.specs.cluster.Steps.{Cluster, Step, StepRun, AreSteps, acts_in, by_node}
use Rattle.mc_laws.proofs.invariant.Growth.{actor_here, changed_here}

pub reached_on : (w : World) (later earlier : List (ℕ × Act)) → reached w (later ++ earlier) ≡ reached (reached w earlier) later
reached_on w [] earlier = refl
reached_on w (act ∷ later) earlier = ap (λ (v : World). after v act.0 act.1) (reached_on w later earlier)

pub run_on : (w : World) (later earlier : List (ℕ × Act)) → IsRun (reached w earlier) later → IsRun w earlier → IsRun w (later ++ earlier)
run_on w [] earlier run before = before
run_on w (act ∷ later) earlier run before =
    (subst (λ (v : World). May v act.0 act.1) (sym (reached_on w later earlier)) run.0, run_on w later earlier run.1 before)

-- and the later part of a run is one from where the earlier part led
pub run_behind : (w : World) (later earlier : List (ℕ × Act)) → IsRun w (later ++ earlier) → IsRun (reached w earlier) later
run_behind w [] earlier run = tt
run_behind w (act ∷ later) earlier run = (subst (λ (v : World). May v act.0 act.1) (reached_on w later earlier) run.0, run_behind w later earlier run.1)

-- a run of steps is a run of their acts
pub steps_run : (cluster : Cluster) (first : World) (steps : List Step) → AreSteps cluster first steps → IsRun first (acts_in steps)
steps_run cluster first [] are = tt
steps_run cluster first (newest ∷ older) are = run_on first (by_node newest.node newest.acts) (acts_in older) are.0.run (steps_run cluster first older are.1)

-- every list of steps is a run
abbrev pub run_by : StepRun → Run
run_by run = record {
  nodes = run.cluster.nodes;
  serials = run.cluster.serials;
  acts = acts_in run.steps;
  may = steps_run run.cluster (start run.cluster.nodes run.cluster.serials) run.steps run.are;
}

-- ---- what acts of one node leave of it, and what they send

pub actor_so : (w : World) (node : ℕ) (acts : List Act) → (reached w (by_node node acts)).actors node ≡ did node (w.actors node) acts
actor_so w node [] = refl
actor_so w node (newest ∷ older) =
    actor_here (reached w (by_node node older)) node newest ∙ ap (λ (a : Actor). actor_by node a newest) (actor_so w node older)

pub records_so : (w : World) (node : ℕ) (acts : List Act) → (reached w (by_node node acts)).records node ≡ saved (w.records node) acts
records_so w node [] = refl
records_so w node (newest ∷ older) =
    changed_here (reached w (by_node node older)).records node (records_by ((reached w (by_node node older)).records node) newest)
    ∙ ap (λ (r : Records). records_by r newest) (records_so w node older)

pub packets_so : (w : World) (node : ℕ) (acts : List Act) →
    (reached w (by_node node acts)).packets ≡ packets_in node (w.actors node) (w.records node) acts ++ w.packets
packets_so w node [] = refl
packets_so w node (newest ∷ older) =
    let a = actor_so w node older in
    let r = records_so w node older in
    (λ i. packets_by node (a i) (r i) newest ++ packets_so w node older i)
    ∙ sym (append_assoc (packets_by node (did node (w.actors node) older) (saved (w.records node) older) newest)
    (packets_in node (w.actors node) (w.records node) older) w.packets)
