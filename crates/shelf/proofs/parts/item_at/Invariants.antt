use Rattle.std.proofs.Common.{◌≡◌, drop}
use Rattle.std.specs.List.{slice_get}
use Rattle.shelf.specs.Parted.{all_in}
use Rattle.shelf.proofs.parts.item_at.Given as goal

abbrev pub invariant-loop-part : goal.invariant-loop-part
invariant-loop-part g l = slice_get (all_in (drop l.part-index l.parts)) l.left ≡ slice_get (all_in l.parts) l.fn.place
