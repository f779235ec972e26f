use Rattle.std.proofs.Common.{◌-◌, length}
use Rattle.script_runner.proofs.Arriving.{IsSame}
use Rattle.script_runner.proofs.arrivals.Arrivals.reach.Given as goal

abbrev pub invariant-loop-self : goal.invariant-loop-self
invariant-loop-self l = IsSame l.self-inside.sets.items l.self-inside.marks l.fn.self

abbrev pub decreases-loop-self : goal.decreases-loop-self
decreases-loop-self l = l.number - length l.self-inside.sets.items
