use Rattle.std.proofs.Common.{length, ap, inl}
use Rattle.shelf.specs.Parted.{all_in}
use Rattle.shelf.proofs.Shelving.{empty_in_parts}
use Rattle.shelf.proofs.shelf.Shelf.empty.Goals as goal

pub invariant_of-result : goal.invariant_of-result
invariant_of-result g c = empty_in_parts c.new.result.items (inl (ap length c.new.ensures.items)) (ap all_in c.new.ensures.items)
