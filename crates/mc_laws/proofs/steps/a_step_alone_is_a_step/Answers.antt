use Rattle.mc_laws.proofs.step.Assembly.{step_together}
use Rattle.mc_laws.proofs.steps.a_step_alone_is_a_step.Goals as goal

pub returns : goal.returns
returns c = step_together
