use Rattle.std.proofs.Common.{length}
use Rattle.serve_nodes.proofs.opening.stations_of.Given as goal

abbrev pub decreases-loop-entrance : goal.decreases-loop-entrance
decreases-loop-entrance g l = length l.entrances.items
