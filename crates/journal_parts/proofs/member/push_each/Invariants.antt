use Rattle.std.proofs.Common.{◌≡◌, ◌≤◌, ◌-◌, ◌++◌, length, map}
use Rattle.std.specs.Arc.{arc_value}
use Rattle.std.specs.Vec.{vec_capacity, vec_len}
use Rattle.journal_parts.specs.Entries.{entry_of}
use Rattle.journal_parts.specs.Gathering.{entry_done}
use Rattle.journal_parts.proofs.member.push_each.Given as goal

abbrev pub invariant-loop-done : goal.invariant-loop-done
invariant-loop-done l =
    (map entry_of l.own.items ++ map entry_done (map arc_value l.left.items) ≡ map entry_of l.fn.own.items ++ map entry_done (map arc_value l.fn.dones.items))
    × (length l.left.items ≤ vec_capacity l.own - vec_len l.own)

abbrev pub decreases-loop-done : goal.decreases-loop-done
decreases-loop-done l = length l.left.items
