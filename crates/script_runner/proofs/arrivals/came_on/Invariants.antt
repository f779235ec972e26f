use Rattle.std.proofs.Common.{◌-◌, length}
use Rattle.script_runner.specs.Arrivals.{HaveCome}
use Rattle.script_runner.proofs.arrivals.came_on.Given as goal

abbrev pub invariant-loop-set : goal.invariant-loop-set
invariant-loop-set l = HaveCome l.sets l.node l.mark

abbrev pub decreases-loop-set : goal.decreases-loop-set
decreases-loop-set l = length l.sets - l.mark
