use Rattle.script_lines.proofs.SaidLemmas.{spelled_so}
use Rattle.script_lines.proofs.line.spelled_so.Goals as goal

pub returns : goal.returns
returns c = spelled_so
