use Rattle.std.proofs.Common.{◌≡◌, ◌∙◌, ap}
use Rattle.std.proofs.lemmas.Result.{IfOk-weaker}
use Rattle.mc_model.specs.synod.Packet.{Slot}
use Rattle.synod_acceptor.specs.Votes.{report_of, slot_reported}
use Rattle.node_kept.proofs.Leaving.{promised_here}
use Rattle.node_kept.proofs.kept.Kept.promised.Goals as goal

pub returns : goal.returns
returns c =
    let slot = slot_reported c.args.report.now in
    let id : c.slot.inside.id ≡ slot.id = ap (λ (s : Slot). s.id) (c.slot.view_is ∙ c.slot-slot.ensures.slot) in
    let taken = rw id at c.in_ok-message.ensures in
    IfOk-weaker c.leave.result _ _ (λ step is.
    promised_here c.args.self.now c.args.from slot c.args.ballot
    (report_of c.args.report.now) c.in_ok-message.message c.promised_by.new.self c.in_ok-packet.packet step c.requires.own c.requires.runs taken
    c.in_ok-packet.ensures (rw id at is)) c.leave.ensures
