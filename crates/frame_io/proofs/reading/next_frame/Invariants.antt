use Rattle.std.proofs.Common.{◌≡◌, ◌-◌}
use Rattle.octet_io.specs.Reads.{most_reads}
use Rattle.frame_io.proofs.Progress.{Progress}
use Rattle.frame_io.proofs.reading.next_frame.Given as goal

abbrev pub invariant-reads : goal.invariant-reads
invariant-reads g l = Progress g.R.Read.remaining l.initial.reader l.reader l.initial.framer l.framer × (l.into ≡ l.initial.into)

abbrev pub decreases-reads : goal.decreases-reads
decreases-reads g l = most_reads - l.reader.reads
