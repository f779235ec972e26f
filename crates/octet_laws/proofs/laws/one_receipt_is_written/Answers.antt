use Rattle.octet_laws.proofs.Once.{written_once}
use Rattle.octet_laws.proofs.laws.one_receipt_is_written.Goals as goal

pub returns : goal.returns
returns c = written_once
