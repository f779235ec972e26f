use Rattle.std.proofs.Common.{take, map}
use Rattle.record_rows.specs.Content.{entry_of, AreShownAs}
use Rattle.record_rows.proofs.row.slot_rows.Given as goal

abbrev pub invariant-loop-row : goal.invariant-loop-row
invariant-loop-row l = AreShownAs (take l.row-index l.shown) (map entry_of l.rows.items)
