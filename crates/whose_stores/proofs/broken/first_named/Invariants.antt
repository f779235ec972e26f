use Rattle.std.proofs.Common.{◌≡◌, ◌+◌, drop}
use Rattle.whose_stores.specs.Rules.{first_named}
use Rattle.whose_stores.proofs.broken.first_named.Given as goal

abbrev pub invariant-loop-at : goal.invariant-loop-at
invariant-loop-at l = first_named l.above (l.at + 1) (drop l.at l.named) ≡ first_named l.above 1 l.named
