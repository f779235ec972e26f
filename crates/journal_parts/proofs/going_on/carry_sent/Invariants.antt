use Rattle.std.proofs.Common.{◌≡◌, ◌++◌, drop}
use Rattle.journal_parts.specs.Numbers.{all_from, all_sent_by}
use Rattle.journal_parts.proofs.going_on.carry_sent.Given as goal

abbrev pub invariant-loop-entry : goal.invariant-loop-entry
invariant-loop-entry l =
    l.into.items ++ all_from l.from (all_sent_by (drop l.entry-index l.noted)) ≡ l.initial.into.items ++ all_from l.from (all_sent_by l.noted)
