use Rattle.mc_model.specs.cluster.Steps.{StepRun, world_after}
use Rattle.mc_laws.proofs.step.Behind.{run_by}
use Rattle.mc_laws.proofs.invariant.Reached.{Holds, holds, one_fate, no_grant_after, stands_on_delivery}
use Rattle.mc_laws.proofs.promises.headline_over_steps.Goals as goal

reached_so : (run : StepRun) → Holds (world_after run)
reached_so run = let acts = run_by run in holds acts.nodes acts.serials acts.acts acts.may

pub returns-clause-one_fate : goal.returns-clause-one_fate
returns-clause-one_fate c = λ run. one_fate (world_after run) (reached_so run)

pub returns-clause-no_grant : goal.returns-clause-no_grant
returns-clause-no_grant c = λ run. no_grant_after (world_after run) (reached_so run)

pub returns-clause-delivery : goal.returns-clause-delivery
returns-clause-delivery c = λ run. stands_on_delivery (world_after run) (reached_so run)

pub returns-clause-chosen : goal.returns-clause-chosen
returns-clause-chosen c = λ run stating id final is_in states. (reached_so run).told.chosen stating id states.chain is_in states.tells
