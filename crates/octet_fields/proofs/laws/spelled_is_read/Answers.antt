use Rattle.octet_fields.proofs.Records.{front_again}
use Rattle.octet_fields.proofs.laws.spelled_is_read.Goals as goal

pub returns : goal.returns
returns g c = front_again
