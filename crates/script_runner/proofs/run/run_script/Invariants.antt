use Rattle.std.proofs.Common.{◌+◌, ◌*◌, ◌-◌, length}
use Rattle.octet_io.specs.Reads.{most_reads}
use Rattle.script_runner.proofs.Running.{HasRun}
use Rattle.script_runner.proofs.run.run_script.Given as goal

abbrev pub invariant-lines : goal.invariant-lines
invariant-lines g l = HasRun g.R.Read.remaining g.W.Write.contents l.fn.reader l.reader l.fn.writer l.writer l.buffer l.stage l.number

abbrev pub decreases-lines : goal.decreases-lines
decreases-lines g l = 20002 * (most_reads - l.reader.reads) + length l.buffer
