use Rattle.std.proofs.Common.{length}
use Rattle.node_kept.proofs.Opening.{Fills}
use Rattle.node_kept.proofs.kept.Kept.file_falling.Given as goal

abbrev pub invariant-loop-stored : goal.invariant-loop-stored
invariant-loop-stored l = Fills l.records.items l.fn.records.items l.fn.self l.self

abbrev pub decreases-loop-stored : goal.decreases-loop-stored
decreases-loop-stored l = length l.records.items
