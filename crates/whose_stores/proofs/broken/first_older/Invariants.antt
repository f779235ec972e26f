use Rattle.std.proofs.Common.{◌≡◌, ◌+◌, drop}
use Rattle.whose_stores.specs.Rules.{first_older}
use Rattle.whose_stores.proofs.broken.first_older.Given as goal

abbrev pub invariant-loop-at : goal.invariant-loop-at
invariant-loop-at l = first_older l.by (l.at + 1) (drop l.at l.all) (drop l.at l.named) ≡ first_older l.by 1 l.all l.named
