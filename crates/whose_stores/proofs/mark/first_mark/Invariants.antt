use Rattle.std.proofs.Common.{◌≡◌, ◌+◌, drop}
use Rattle.whose_stores.specs.Marks.{first_mark}
use Rattle.whose_stores.proofs.mark.first_mark.Given as goal

abbrev pub invariant-loop-at : goal.invariant-loop-at
invariant-loop-at l = first_mark (l.at + 1) (drop l.at l.found) ≡ first_mark 1 l.found
