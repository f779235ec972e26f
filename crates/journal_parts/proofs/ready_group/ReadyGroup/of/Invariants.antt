use Rattle.std.proofs.Common.{◌≡◌, length, map, take}
use Rattle.std.specs.Arc.{arc_value}
use Rattle.journal_parts.specs.Gathering.{AreGathered, AreNumbered, entry_done}
use Rattle.journal_parts.proofs.ready_group.ReadyGroup.of.Given as goal

abbrev pub invariant-loop-place : goal.invariant-loop-place
invariant-loop-place l =
    AreGathered l.fn.group.was (take l.place l.fn.group.packets) (map arc_value l.dones.items)
    × (l.copies.items ≡ map entry_done (map arc_value l.dones.items))
    × (length l.dones.items ≡ l.place)
    × AreNumbered l.fn.node (take l.place l.numbers) (map arc_value l.dones.items)
