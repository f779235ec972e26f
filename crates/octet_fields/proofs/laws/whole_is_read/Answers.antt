use Rattle.octet_fields.proofs.Records.{whole_again}
use Rattle.octet_fields.proofs.laws.whole_is_read.Goals as goal

pub returns : goal.returns
returns g c = whole_again
