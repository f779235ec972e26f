use Rattle.mc_model.specs.cluster.World.{start}
use Rattle.mc_model.specs.cluster.Steps.{acts_in}
use Rattle.mc_laws.proofs.step.Behind.{steps_run}
use Rattle.mc_laws.proofs.step.Assembly.{step_together}
use Rattle.mc_laws.proofs.steps.a_run_of_steps_goes_on.Goals as goal

pub returns : goal.returns
returns c = λ cluster steps step are alone came.
    (step_together cluster (acts_in steps) step.node step.input step.acts (steps_run cluster (start cluster.nodes cluster.serials) steps are) alone came, are)
