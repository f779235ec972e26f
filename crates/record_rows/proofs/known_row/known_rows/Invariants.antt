use Rattle.std.proofs.Common.{take}
use Rattle.record_rows.specs.Known.{AreShownKnown, known_in}
use Rattle.record_rows.proofs.known_row.known_rows.Given as goal

abbrev pub invariant-loop-row : goal.invariant-loop-row
invariant-loop-row l = AreShownKnown (take l.row-index l.shown) (known_in l.rows.items)
