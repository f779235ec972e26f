use Rattle.node_laws.proofs.step.Promising.{promise_steps}
use Rattle.node_laws.proofs.packets.a_promise_is_exact.Goals as goal

pub returns : goal.returns
returns c setup k s stands works sender ballot slot report = promise_steps setup k s stands sender ballot slot report works
