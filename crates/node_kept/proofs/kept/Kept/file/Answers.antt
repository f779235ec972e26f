use Rattle.std.proofs.Common.{◌∙◌, ap}
use Rattle.mc_model.specs.synod.Packet.{Slot}
use Rattle.node_kept.proofs.Opening.{filed}
use Rattle.node_kept.proofs.kept.Kept.file.Goals as goal

pub returns : goal.returns
returns c =
    filed c.args.self.now c.install.new.self c.args.stored c.id.inside.id c.in_ok-message.message c.file.new.self c.in_ok-next.next
    (ap (λ (s : Slot). s.id) (c.id.view_is ∙ c.slot.ensures.slot)) c.promises.ensures.promised c.promises.ensures.place
    c.in_ok-message.ensures c.in_ok-file.ensures.records c.in_ok-file.ensures.others
    (c.in_ok-file.ensures.own c.args.self.now.setup.node c.args.self.now.incarnation c.args.self.now.setup.nodes c.id.inside.id)
    c.in_ok-next.ensures c.install.ensures
