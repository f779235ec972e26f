use Rattle.std.proofs.Common.{map, take}
use Rattle.toml.specs.View.{view}
use Rattle.config_limits.specs.Reading.{EachSays, IsNet}
use Rattle.config_limits.proofs.row.nets_in.Given as goal

abbrev pub invariant-loop-value : goal.invariant-loop-value
invariant-loop-value l = EachSays IsNet (map view (take l.value-index l.values)) l.nets.items
