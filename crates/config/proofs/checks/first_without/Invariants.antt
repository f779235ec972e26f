use Rattle.std.proofs.Common.{◌≡◌, true, take}
use Rattle.std.specs.List.{list_all}
use Rattle.toml.specs.View.{view}
use Rattle.config.specs.Faults.{has_key}
use Rattle.config.proofs.checks.first_without.Given as goal

abbrev pub invariant-loop-place : goal.invariant-loop-place
invariant-loop-place l = list_all (λ row. has_key l.key (view row)) (take l.place l.rows) ≡ true
