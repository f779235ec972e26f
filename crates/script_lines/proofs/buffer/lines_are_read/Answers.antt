use Rattle.script_lines.proofs.LineLemmas.{lines_are_read}
use Rattle.script_lines.proofs.buffer.lines_are_read.Goals as goal

pub returns : goal.returns
returns c = lines_are_read
