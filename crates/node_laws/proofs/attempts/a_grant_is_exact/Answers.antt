use Rattle.node_laws.proofs.step.Granting.{grant_steps}
use Rattle.node_laws.proofs.attempts.a_grant_is_exact.Goals as goal

pub returns : goal.returns
returns c setup k s stands works mine slot may = grant_steps setup k s stands slot may works mine
