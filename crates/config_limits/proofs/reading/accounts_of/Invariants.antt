use Rattle.std.proofs.Common.{map, take}
use Rattle.toml.specs.View.{view}
use Rattle.config_limits.specs.Reading.{AreLimited}
use Rattle.config_limits.proofs.reading.accounts_of.Given as goal

abbrev pub invariant-loop-place : goal.invariant-loop-place
invariant-loop-place l = AreLimited (map view (take l.place l.rows)) l.accounts.items
