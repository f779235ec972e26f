use Rattle.octet_fields.proofs.Records.{first_fault}
use Rattle.octet_fields.proofs.laws.first_fault_is_told.Goals as goal

pub returns : goal.returns
returns g c = first_fault
