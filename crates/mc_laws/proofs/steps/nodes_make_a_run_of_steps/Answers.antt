use Rattle.mc_laws.proofs.step.Assembly.{steps_together}
use Rattle.mc_laws.proofs.steps.nodes_make_a_run_of_steps.Goals as goal

pub returns : goal.returns
returns c = steps_together
