use Rattle.std.proofs.Common.{take}
use Rattle.world_runs.specs.Traces.{AreCopies}
use Rattle.world_runs.proofs.running.steps_copied.Given as goal

abbrev pub invariant-loop-step : goal.invariant-loop-step
invariant-loop-step l = AreCopies (take l.step-index l.steps.items) l.copies.items
