use Rattle.std.proofs.Common.{ap, ◌∙◌}
use Rattle.octet_fields.specs.declared.defect.Defect.TheVariants as defects
use Rattle.octet_fields.specs.Reading.{told}
use Rattle.octet_fields.proofs.Records.{nothing_at-told}
use Rattle.pdu_fields.specs.declared.fault.PduFault.TheVariants as faults
use Rattle.pdu_fields.proofs.fields.nothing_at.Goals as goal

pub returns-in-Ok : goal.returns-in-Ok
returns-in-Ok c =
    nothing_at-told (λ _. faults.Extra) defects.Extra c.args.octets.now ∙ ap (told (λ _. faults.Extra)) c.in-Ok.ensures

pub returns-in-Err : goal.returns-in-Err
returns-in-Err c =
    nothing_at-told (λ _. faults.Extra) defects.Extra c.args.octets.now ∙ ap (told (λ _. faults.Extra)) c.in-Err.ensures
