use Rattle.std.proofs.Common.{length}
use Rattle.journal_tests.proofs.history.seated.Given as goal

abbrev pub decreases-loop-hands : goal.decreases-loop-hands
decreases-loop-hands g l = length l.hands.items
