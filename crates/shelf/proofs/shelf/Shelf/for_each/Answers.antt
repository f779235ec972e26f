use Rattle.shelf.proofs.Shelving.{visited_are, visited_in_parts}
use Rattle.shelf.proofs.shelf.Shelf.for_each.Goals as goal

pub invariant_of-self : goal.invariant_of-self
invariant_of-self g c =
    visited_in_parts (g.F.Visit.leaves c.args.visit.now) c.visit_parts.new.parts.items c.self.inside.parts.items c.visit_parts.ensures.entries c.self.invariant

pub returns-clause-entries : goal.returns-clause-entries
returns-clause-entries g c =
    rw (← c.self.view_is) (visited_are (g.F.Visit.leaves c.args.visit.now) c.visit_parts.new.parts.items c.self.inside.parts.items c.visit_parts.ensures.entries)
