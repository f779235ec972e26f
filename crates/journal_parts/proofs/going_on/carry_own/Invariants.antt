use Rattle.std.proofs.Common.{◌≡◌, ◌+◌, ◌++◌, drop}
use Rattle.std.specs.Arc.{arc_value}
use Rattle.journal_parts.specs.Numbers.{all_from, numbered_from, sent_by}
use Rattle.journal_parts.proofs.going_on.carry_own.Given as goal

abbrev pub invariant-loop-packet : goal.invariant-loop-packet
invariant-loop-packet l =
    (l.number ≡ l.noted.before + l.packet-index)
    × (l.into.items ++ all_from l.from (numbered_from l.number (drop l.packet-index (arc_value l.noted.entry.done).outputs.packets.items))
    ≡ l.initial.into.items ++ all_from l.from (sent_by l.noted))
