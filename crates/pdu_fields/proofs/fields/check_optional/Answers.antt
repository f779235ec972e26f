use Rattle.std.proofs.Common.{ap}
use Rattle.octet_fields.specs.Reading.{told}
use Rattle.pdu_fields.specs.Grammar.{parameters_fault}
use Rattle.pdu_fields.proofs.fields.check_optional.Goals as goal

pub returns-in-Ok : goal.returns-in-Ok
returns-in-Ok c = (c.in-Ok.ensures.0, ap (told parameters_fault) c.in-Ok.ensures.1)

pub returns-in-Err : goal.returns-in-Err
returns-in-Err c = ap (told parameters_fault) c.in-Err.ensures
