use Rattle.node_laws.proofs.step.Telling.{tell_steps}
use Rattle.node_laws.proofs.packets.a_tell_is_exact.Goals as goal

pub returns : goal.returns
returns c setup k s stands works mine teller name told within = tell_steps setup k s stands teller name told within works mine
