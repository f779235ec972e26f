use Rattle.std.proofs.Common.{◌≡◌}
use Rattle.stop_tests.proofs.at_once.joined.Given as goal

abbrev pub invariant-loop-packet : goal.invariant-loop-packet
invariant-loop-packet g l = l.group.was ≡ l.watched.kept
