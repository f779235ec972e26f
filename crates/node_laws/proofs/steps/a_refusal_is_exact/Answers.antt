use Rattle.node_laws.proofs.step.AsideSteps.{refusal_steps}
use Rattle.node_laws.proofs.steps.a_refusal_is_exact.Goals as goal

pub returns : goal.returns
returns c setup k s = refusal_steps setup s k
