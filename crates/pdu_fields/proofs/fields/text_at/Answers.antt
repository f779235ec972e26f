use Rattle.std.proofs.Common.{ap}
use Rattle.octet_fields.specs.Reading.{told}
use Rattle.pdu_fields.specs.Grammar.{text_fault}
use Rattle.pdu_fields.proofs.fields.text_at.Goals as goal

pub returns-in-Ok-clause-read : goal.returns-in-Ok-clause-read
returns-in-Ok-clause-read c = ap (told (text_fault c.args.field)) c.in-Ok.ensures.read

pub returns-in-Ok-clause-text : goal.returns-in-Ok-clause-text
returns-in-Ok-clause-text c = c.in-Ok.ensures.text

pub returns-in-Err-clause-read : goal.returns-in-Err-clause-read
returns-in-Err-clause-read c = rw c.text_fault.ensures (ap (told (text_fault c.args.field)) c.in-Err.ensures.read)
