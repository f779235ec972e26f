use Rattle.node_laws.proofs.step.AnyPacket.{packet_steps}
use Rattle.node_laws.proofs.packets.a_step_of_a_packet_is_exact.Goals as goal

pub returns : goal.returns
returns c = packet_steps
