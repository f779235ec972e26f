use Rattle.octet_laws.proofs.Reading.{read_spelled}
use Rattle.octet_laws.proofs.laws.what_is_read_is_spelled.Goals as goal

pub returns : goal.returns
returns c = read_spelled
