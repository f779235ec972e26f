use Rattle.std.proofs.Common.{take}
use Rattle.std.specs.List.{AllByRecursion}
use Rattle.toml.specs.View.{view}
use Rattle.config.specs.Faults.{IsFit}
use Rattle.config.proofs.checks.first_bad.Given as goal

abbrev pub invariant-loop-key : goal.invariant-loop-key
invariant-loop-key l = AllByRecursion (IsFit (view l.document)) (take l.key-index l.keys)
