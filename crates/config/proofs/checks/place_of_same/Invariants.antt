use Rattle.std.proofs.Common.{◌≡◌, false, take}
use Rattle.std.specs.List.{list_any}
use Rattle.toml.specs.View.{view}
use Rattle.config.specs.Rows.{same_value}
use Rattle.config.proofs.checks.place_of_same.Given as goal

abbrev pub invariant-loop-place : goal.invariant-loop-place
invariant-loop-place l = list_any (λ other. same_value l.name (view l.first) (view other)) (take l.place l.others) ≡ false
