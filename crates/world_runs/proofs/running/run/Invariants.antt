use Rattle.std.specs.Vec.{vec_capacity}
use Rattle.std.specs.VecDeque.{deque_len}
use Rattle.world_runs.proofs.Leading.{IsUnderWay}
use Rattle.world_runs.proofs.running.run.Given as goal

abbrev pub invariant-loop-step : goal.invariant-loop-step
invariant-loop-step l = IsUnderWay l.initial.world l.initial.left.items l.left.items l.answers.items (vec_capacity l.answers) l.world

abbrev pub decreases-loop-step : goal.decreases-loop-step
decreases-loop-step l = deque_len l.left
