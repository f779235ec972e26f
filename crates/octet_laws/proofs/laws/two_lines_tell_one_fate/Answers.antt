use Rattle.octet_laws.proofs.Example.{two_lines_tell}
use Rattle.octet_laws.proofs.laws.two_lines_tell_one_fate.Goals as goal

pub returns : goal.returns
returns c = two_lines_tell
