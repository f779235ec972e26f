use Rattle.std.proofs.Common.{◌≡◌, ◌++◌, drop}
use Rattle.journal_parts.specs.Numbers.{all_from}
use Rattle.journal_parts.proofs.going_on.carry_again.Given as goal

abbrev pub invariant-loop-one : goal.invariant-loop-one
invariant-loop-one l = l.into.items ++ all_from l.from (drop l.one-index l.carried) ≡ l.initial.into.items ++ all_from l.from l.carried
