use Rattle.std.proofs.Common.{◌≡◌, take, map}
use Rattle.record_rows.specs.Kept.{column_kept}
use Rattle.record_rows.proofs.beside.are_kept.Given as goal

abbrev pub invariant-loop-at : goal.invariant-loop-at
invariant-loop-at l = take l.at l.columns ≡ map column_kept (take l.at l.kept)
