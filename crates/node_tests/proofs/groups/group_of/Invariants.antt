use Rattle.std.proofs.Common.{◌≡◌}
use Rattle.node_tests.proofs.groups.group_of.Given as goal

abbrev pub invariant-loop-next : goal.invariant-loop-next
invariant-loop-next g l = l.group.was ≡ l.node.kept
