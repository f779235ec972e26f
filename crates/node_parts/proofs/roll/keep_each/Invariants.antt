use Rattle.std.specs.Prelude.{filter}
use Rattle.shelf.proofs.Changing.{AreChanged}
use Rattle.node_parts.specs.Living.{is_kept_listed}
use Rattle.node_parts.proofs.roll.keep_each.Given as goal

abbrev pub invariant-loop-part : goal.invariant-loop-part
invariant-loop-part l = AreChanged (filter (is_kept_listed l.shelf.entries)) l.fn.parts.items l.part-items l.part-index
