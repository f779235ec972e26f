use Rattle.std.proofs.Common.{◌≡◌, ◌+◌, drop}
use Rattle.whose_stores.specs.Marks.{first_going}
use Rattle.whose_stores.proofs.begun.first_going.Given as goal

abbrev pub invariant-loop-at : goal.invariant-loop-at
invariant-loop-at l = first_going (l.at + 1) (drop l.at l.found) ≡ first_going 1 l.found
