use Rattle.std.proofs.Common.{◌≡◌, map, take}
use Rattle.toml.specs.View.{view}
use Rattle.config.specs.Config.{route_at}
use Rattle.config.proofs.build.routes_of.Given as goal

abbrev pub invariant-loop-row : goal.invariant-loop-row
invariant-loop-row l = l.routes ≡ map route_at (map view (take l.row-index l.rows))
