use Rattle.std.proofs.Common.{◌≡◌}
use Rattle.shelf.specs.Places.{entries_of}
use Rattle.shelf.proofs.Visited.{changed_to, visited}
use Rattle.shelf.proofs.shelf.visit_each.Given as goal

abbrev pub invariant-loop-entry : goal.invariant-loop-entry
invariant-loop-entry g l = entries_of l.entry-items ≡ changed_to (visited (g.F.Visit.leaves l.visit)) l.entry-index (entries_of l.fn.entries.items)
