use Rattle.std.proofs.Common.{◌≡◌, drop}
use Rattle.shelf.specs.Parted.{all_in}
use Rattle.node_parts.specs.Waking.{soonest_in}
use Rattle.node_parts.proofs.roll.soonest_of.Given as goal

abbrev pub invariant-loop-part : goal.invariant-loop-part
invariant-loop-part l = soonest_in (all_in (drop l.part-index l.parts)) l.soonest ≡ soonest_in (all_in l.parts) 4102444799
