use Rattle.std.proofs.Common.{◌≡◌}
use Rattle.shelf.proofs.Visited.{changed_to}
use Rattle.node_parts.specs.Sleeping.{dozed, reach_noted}
use Rattle.node_parts.proofs.sleepers.doze_each.Given as goal

abbrev pub invariant-loop-listing : goal.invariant-loop-listing
invariant-loop-listing l = l.listing-items ≡ changed_to (dozed l.shelf.entries l.noted.me (reach_noted l.noted) l.clock) l.listing-index l.fn.live.items
