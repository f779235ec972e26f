use Rattle.std.proofs.Common.{List, Some, map, ap, ◌∙◌}
use Rattle.mc_model.specs.node.Input.{Delivery}
use Rattle.node_model.specs.Stepped.{stepped}
use Rattle.synod_acceptor.specs.Packets.{packet_of}
use Rattle.synod_acceptor.specs.declared.packet.Packet.{Packet}
use Rattle.node_parts.specs.declared.outputs.Outputs.{Outputs}
use Rattle.node_kept.specs.Grouping.{Grouped}
use Rattle.node_kept.specs.Keeping.{kept_of}
use Rattle.node_kept.specs.Steps.{outputs_of}
use Rattle.node_kept.proofs.Groups.{gives_each}
use Rattle.node_kept.proofs.step_group.StepGroup.outputs.Goals as goal

pub returns : goal.returns
returns c =
    ap (λ (os : List Outputs). map outputs_of os) (c.deref.ensures.value ∙ c.self.invariant.outputs_are)
    ∙ gives_each c.self.inside.was.value c.self.inside.steps.items (Some c.self.inside.room) c.self.invariant.steps_are c.self.invariant.ascend
    c.self.invariant.for_messages
    ∙ ap (λ (g : Grouped). map (λ (packet : Packet). (stepped g.was.setup (kept_of g.was) (Delivery (packet_of packet))).outputs) g.packets) c.self.view_is
