use Rattle.std.proofs.Common.{◌≡◌, true, take}
use Rattle.std.specs.List.{AllByRecursion}
use Rattle.toml.specs.View.{view}
use Rattle.config.specs.Faults.{is_once}
use Rattle.config.proofs.checks.first_repeated.Given as goal

abbrev pub invariant-loop-key : goal.invariant-loop-key
invariant-loop-key l = AllByRecursion (λ key. is_once (view l.document) key ≡ true) (take l.key-index l.keys)
