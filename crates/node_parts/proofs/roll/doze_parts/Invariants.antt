use Rattle.std.proofs.Common.{map}
use Rattle.shelf.proofs.Changing.{AreChanged}
use Rattle.node_parts.specs.Sleeping.{dozed, reach_noted}
use Rattle.node_parts.proofs.roll.doze_parts.Given as goal

abbrev pub invariant-loop-part : goal.invariant-loop-part
invariant-loop-part l =
    AreChanged (map (dozed l.shelf.entries l.noted.me (reach_noted l.noted) l.clock)) l.fn.parts.items l.part-items l.part-index
