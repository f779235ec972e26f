use Rattle.std.proofs.Common.{◌≡◌, List, Some, map, refl, sym, ap, subst, ◌∙◌}
use Rattle.mc_model.specs.node.Input.{Delivery}
use Rattle.node_model.specs.Stepped.{stepped}
use Rattle.synod_acceptor.specs.Packets.{packet_of}
use Rattle.synod_acceptor.specs.declared.packet.Packet.{Packet}
use Rattle.node_parts.specs.declared.outputs.Outputs.{Outputs}
use Rattle.node_kept.specs.declared.kept.Kept.{Kept as Holding}
use Rattle.node_kept.specs.Grouping.{AreGrouped, Grouped, HasSteppedAll, outputs_in, packets_in}
use Rattle.node_kept.specs.Keeping.{kept_of}
use Rattle.node_kept.specs.Steps.{outputs_of}
use Rattle.node_kept.proofs.Groups.{gives_each, made_grouped, made_same, same_start}
use Rattle.node_kept.proofs.kept.Kept.install_all.Goals as goal

pub install_each-requires-clause-steps : goal.install_each-requires-clause-steps
install_each-requires-clause-steps c =
    let k = c.args.self.now in
    let made : Holding = record k { messages = c.make_room.new.self } in
    let was : c.group.inside.was.value ≡ k = ap (λ (g : Grouped). g.was) c.group.view_is ∙ c.requires.was in
    made_grouped k made c.group.inside.steps.items refl refl refl refl refl refl c.make_room.ensures.entries c.ascends.ensures
    (subst (λ (h : Holding). AreGrouped h c.group.inside.steps.items) was c.group.invariant.steps_are)

pub returns-clause-taken : goal.returns-clause-taken
returns-clause-taken c =
    let k = c.args.self.now in
    let new = c.install_each.new.self in
    let made : Holding = record k { messages = c.make_room.new.self } in
    let same = made_same k made c.group.inside.steps.items refl refl refl refl refl refl c.make_room.ensures.entries c.ascends.ensures in
    let packets : packets_in c.group.inside.steps.items ≡ c.args.group.packets = ap (λ (g : Grouped). g.packets) c.group.view_is in
    subst (λ (os : List Outputs). HasSteppedAll k c.args.group.packets os new) (sym c.group.invariant.outputs_are)
    (subst (λ (ps : List Packet). HasSteppedAll k ps (outputs_in c.group.inside.steps.items) new) packets
    (same_start k made new _ _ same c.install_each.ensures.taken))

pub returns-clause-gives : goal.returns-clause-gives
returns-clause-gives c =
    ap (λ (os : List Outputs). map outputs_of os) c.group.invariant.outputs_are
    ∙ gives_each c.group.inside.was.value c.group.inside.steps.items (Some c.group.inside.room) c.group.invariant.steps_are c.group.invariant.ascend
    c.group.invariant.for_messages
    ∙ ap (λ (g : Grouped). map (λ (packet : Packet). (stepped g.was.setup (kept_of g.was) (Delivery (packet_of packet))).outputs) g.packets) c.group.view_is
