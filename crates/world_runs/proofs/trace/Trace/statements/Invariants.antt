use Rattle.std.proofs.Common.{◌≡◌, flat_map, take}
use Rattle.std.specs.List.{enumerate_from}
use Rattle.world_runs.specs.Statements.{stated_by}
use Rattle.world_runs.proofs.trace.Trace.statements.Given as goal

abbrev pub invariant-loop-step : goal.invariant-loop-step
invariant-loop-step l = l.statements.items ≡ flat_map stated_by (enumerate_from 0 (take l.step l.self.answers.items))
