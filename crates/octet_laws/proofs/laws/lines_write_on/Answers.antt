use Rattle.octet_laws.proofs.Written.{write_on}
use Rattle.octet_laws.proofs.laws.lines_write_on.Goals as goal

pub returns : goal.returns
returns c = write_on
