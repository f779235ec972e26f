use Rattle.std.proofs.Common.{ap}
use Rattle.octet_fields.specs.Reading.{told}
use Rattle.pdu_fields.specs.Grammar.{message_fault}
use Rattle.pdu_fields.proofs.fields.counted_at.Goals as goal

pub returns-in-Ok-clause-read : goal.returns-in-Ok-clause-read
returns-in-Ok-clause-read c = ap (told message_fault) c.in-Ok.ensures.any

pub returns-in-Ok-clause-short : goal.returns-in-Ok-clause-short
returns-in-Ok-clause-short c = c.in-Ok.ensures.few

pub returns-in-Err-clause-read : goal.returns-in-Err-clause-read
returns-in-Err-clause-read c = rw c.message_fault.ensures (ap (told message_fault) c.in-Err.ensures.any)
