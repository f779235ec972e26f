use Rattle.std.proofs.Common.{◌≡◌, true}
use Rattle.std.specs.List.{AllAdjacentBelow}
use Rattle.record_rows.specs.Content.{slot_of, is_below}
use Rattle.record_rows.proofs.row.are_ascending.Given as goal

abbrev pub invariant-loop-at : goal.invariant-loop-at
invariant-loop-at l = AllAdjacentBelow (λ x y. true ≡ is_below (slot_of x) (slot_of y)) l.rows l.at
