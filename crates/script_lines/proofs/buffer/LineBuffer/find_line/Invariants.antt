use Rattle.std.proofs.Common.{◌-◌}
use Rattle.octet_io.specs.Reads.{most_reads}
use Rattle.script_lines.proofs.FindingLemmas.{Progress}
use Rattle.script_lines.proofs.buffer.LineBuffer.find_line.Given as goal

abbrev pub invariant-reads : goal.invariant-reads
invariant-reads g l = Progress g.R.Read.remaining l.initial.self l.self l.initial.reader l.reader l.searched

abbrev pub decreases-reads : goal.decreases-reads
decreases-reads g l = most_reads - l.reader.reads
