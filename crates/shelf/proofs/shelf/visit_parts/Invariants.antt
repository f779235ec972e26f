use Rattle.shelf.proofs.Visited.{AreVisited}
use Rattle.shelf.proofs.shelf.visit_parts.Given as goal

abbrev pub invariant-loop-part : goal.invariant-loop-part
invariant-loop-part g l = AreVisited (g.F.Visit.leaves l.visit) l.fn.parts.items l.part-items l.part-index
