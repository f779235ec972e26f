use Rattle.std.proofs.Common.{Result, ap, sym, ◌∙◌}
use Rattle.pdu_bodies.specs.declared.pdu.Pdu.{Pdu}
use Rattle.pdu_fields.specs.declared.fault.PduFault.{PduFault}
use Rattle.esme_service.specs.Hearing.{done_by, heard_in}
use Rattle.esme_service.specs.Settings.{settings_of}
use Rattle.esme_service.proofs.Frames.{below_16, short_is_wrong}
use Rattle.esme_service.proofs.hearing.hear_frame.Goals as goal

pub returns-in_default-clause-next : goal.returns-in_default-clause-next
returns-in_default-clause-next c =
    let short = short_is_wrong c.args.frame.now (below_16 _ c.in_default.ensures.whole.1) in
    let read = λ (r : Result Pdu PduFault). (done_by (settings_of c.args.config.now) c.args.session.now c.args.frame.now r).next in
    c.hear_wrong_length.ensures.next ∙ sym (ap read short)

pub returns-in_default-clause-heard : goal.returns-in_default-clause-heard
returns-in_default-clause-heard c =
    let short = short_is_wrong c.args.frame.now (below_16 _ c.in_default.ensures.whole.1) in
    let read = λ (r : Result Pdu PduFault). heard_in (settings_of c.args.config.now) r
    (done_by (settings_of c.args.config.now) c.args.session.now c.args.frame.now r) in
    c.hear_wrong_length.ensures.heard ∙ sym (ap read short)
