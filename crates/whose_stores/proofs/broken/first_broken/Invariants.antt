use Rattle.std.proofs.Common.{◌≡◌, ◌+◌, drop}
use Rattle.whose_stores.specs.Rules.{first_broken}
use Rattle.whose_stores.proofs.broken.first_broken.Given as goal

abbrev pub invariant-loop-at : goal.invariant-loop-at
invariant-loop-at l = first_broken l.rule l.all (l.at + 1) (drop l.at l.all) ≡ first_broken l.rule l.all 1 l.all
