use Rattle.octet_laws.proofs.Fates.{written_once}
use Rattle.octet_laws.proofs.laws.one_fate_is_written.Goals as goal

pub returns : goal.returns
returns c = written_once
