use Rattle.std.proofs.Common.{Err, ap, ◌∙◌, Some}
use Rattle.pdu_codec.specs.Pdu.{octets_of}
use Rattle.delivery.specs.Deliveries.{delivered_message}
use Rattle.esme_service.proofs.Deliveries.{of_taken}
use Rattle.esme_service.proofs.delivering.delivery_octets.Goals as goal

pub returns-in_ok-encoded-in-Ok-clause-octets : goal.returns-in_ok-encoded-in-Ok-clause-octets
returns-in_ok-encoded-in-Ok-clause-octets c = λ ends taken found.
    ap Some (c.in_ok-encoded-in-Ok.ensures
    ∙ ap octets_of (c.fitted.ensures (delivered_message taken)
    (of_taken c.args.chain.now.decrees c.args.pushed.sequence c.in-Ok.pdu taken c.in-Ok.ensures.pdu found)))

pub returns-in-Err-NoAttempt-clause-octets : goal.returns-in-Err-NoAttempt-clause-octets
returns-in-Err-NoAttempt-clause-octets c = λ ends taken found.
    absurd ((c.deliver_pdu.ensures.refused.0 (c.in-Err-NoAttempt.is ∙ ap Err c.in-Err-NoAttempt.field-0-is)) ends)
