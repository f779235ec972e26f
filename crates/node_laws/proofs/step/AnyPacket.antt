-- The step of a node to which any packet comes.
use Rattle.mc_model.specs.message.Ids.{IsNode}
use Rattle.mc_model.specs.synod.Packet.{Ask, Packet, Prepare, Promise, Propose, Refused, Tell, Voted}
use Rattle.mc_model.specs.node.Alone.{Node}
use Rattle.mc_model.specs.node.Input.{Delivery}
use Rattle.mc_model.specs.node.Setup.{Setup}
use Rattle.node_model.specs.Kept.{Kept}
use Rattle.node_model.specs.Stepped.{stepped}
use Rattle.node_laws.specs.Stands.{Stands}
use Rattle.node_laws.specs.Steps.{IsAtWork, IsWellMade, StepsAs}
use Rattle.node_laws.proofs.step.AcceptorSteps.{ask_steps, prepare_steps, propose_steps}
use Rattle.node_laws.proofs.step.Promising.{promise_steps}
use Rattle.node_laws.proofs.step.Refusing.{refused_steps}
use Rattle.node_laws.proofs.step.Telling.{tell_steps}
use Rattle.node_laws.proofs.step.Voting.{voted_steps}

pub packet_steps : (setup : Setup) (k : Kept) (s : Node) → Stands setup k s → IsAtWork setup s → IsNode setup.node → (packet : Packet) → IsWellMade packet →
    StepsAs setup s (Delivery packet) (stepped setup k (Delivery packet))
packet_steps setup k s stands works mine (Prepare sender slot ballot) made = prepare_steps setup k s stands works sender ballot slot
packet_steps setup k s stands works mine (Promise sender slot ballot report) made = promise_steps setup k s stands sender ballot slot report works
packet_steps setup k s stands works mine (Propose sender slot vote) made = propose_steps setup k s stands works sender slot vote made
packet_steps setup k s stands works mine (Voted sender slot vote) made = voted_steps setup k s stands sender slot vote made works mine
packet_steps setup k s stands works mine (Refused sender slot ballot promised) made = refused_steps setup k s stands sender ballot promised slot works
packet_steps setup k s stands works mine (Ask sender id name) made = ask_steps setup k s stands works sender id name
packet_steps setup k s stands works mine (Tell sender name told) made = tell_steps setup k s stands sender name told made works mine
