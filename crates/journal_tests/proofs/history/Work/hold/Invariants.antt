use Rattle.std.proofs.Common.{length}
use Rattle.journal_tests.proofs.history.Work.hold.Given as goal

abbrev pub decreases-loop-life : goal.decreases-loop-life
decreases-loop-life g l = length l.lives.items
