use Rattle.std.proofs.Common.{length}
use Rattle.journal_tests.proofs.history.risen.Given as goal

abbrev pub decreases-loop-one : goal.decreases-loop-one
decreases-loop-one g l = length l.all.items
