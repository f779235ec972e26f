use Rattle.node_laws.proofs.step.Crashing.{crash_steps}
use Rattle.node_laws.proofs.steps.a_stop_is_exact.Goals as goal

pub returns : goal.returns
returns c setup k s stands works packet after made = crash_steps setup k s stands works packet after made
