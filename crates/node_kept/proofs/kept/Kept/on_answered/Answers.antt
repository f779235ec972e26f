use Rattle.std.proofs.Common.{◌≡◌, ap}
use Rattle.mc_model.specs.synod.Packet.{Slot}
use Rattle.delivery.specs.Kept.{outcome_kept}
use Rattle.node_kept.proofs.Grants.{answered_here}
use Rattle.node_kept.proofs.kept.Kept.on_answered.Goals as goal

pub returns-clause-ok : goal.returns-clause-ok
returns-clause-ok c =
    let id : c.slot.inside.id ≡ c.args.slot.id = ap (λ (s : Slot). s.id) c.slot.view_is in
    let stands = c.standpoint.ensures in
    answered_here c.args.self.now c.standpoint.result c.args.slot
    (outcome_kept c.args.outcome) c.in_ok-message.message c.conclude.new.self c.in_ok-packet.packet c.in_ok-step.step c.requires
    stands.node stands.incarnation stands.clock (rw id at c.in_ok-message.ensures) c.in_ok-packet.ensures (rw id at c.in_ok-step.ensures)
