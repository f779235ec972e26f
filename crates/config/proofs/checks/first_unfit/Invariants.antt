use Rattle.std.proofs.Common.{take}
use Rattle.std.specs.List.{AllByRecursion}
use Rattle.toml.specs.View.{view}
use Rattle.config.specs.Faults.{Fits}
use Rattle.config.proofs.checks.first_unfit.Given as goal

abbrev pub invariant-loop-place : goal.invariant-loop-place
invariant-loop-place l = AllByRecursion (λ row. Fits (view l.document) l.key (view row)) (take l.place l.rows)
