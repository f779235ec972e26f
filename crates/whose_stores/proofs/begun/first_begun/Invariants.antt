use Rattle.std.proofs.Common.{◌≡◌, ◌+◌, drop}
use Rattle.whose_stores.specs.Marks.{first_begun}
use Rattle.whose_stores.proofs.begun.first_begun.Given as goal

abbrev pub invariant-loop-at : goal.invariant-loop-at
invariant-loop-at l = first_begun (l.at + 1) (drop l.at l.found) ≡ first_begun 1 l.found
