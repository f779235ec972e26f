use Rattle.node_laws.proofs.step.Responding.{response_steps}
use Rattle.node_laws.proofs.attempts.a_response_is_exact.Goals as goal

pub returns : goal.returns
returns c setup k s stands works mine slot outcome may = response_steps setup k s stands works mine slot outcome may
