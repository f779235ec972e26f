use Rattle.shelf.proofs.Shelving.{empty_in_parts, no_entries}
use Rattle.shelf.proofs.shelf.Shelf.with_capacity.Goals as goal

pub invariant_of-result : goal.invariant_of-result
invariant_of-result g c = empty_in_parts c.in_ok-parts_of.field-0.items c.in_ok-parts_of.ensures.number c.in_ok-parts_of.ensures.items

pub returns-clause-entries : goal.returns-clause-entries
returns-clause-entries g c = no_entries c.in_ok-parts_of.field-0.items c.in_ok-parts_of.ensures.items
