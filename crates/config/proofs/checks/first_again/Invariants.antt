use Rattle.std.proofs.Common.{◌≡◌, map, drop}
use Rattle.toml.specs.View.{view}
use Rattle.config.specs.Rows.{has_twice}
use Rattle.config.proofs.checks.first_again.Given as goal

abbrev pub invariant-loop-place : goal.invariant-loop-place
invariant-loop-place l = has_twice l.name (map view (drop l.place l.rows)) ≡ has_twice l.name (map view l.rows)
