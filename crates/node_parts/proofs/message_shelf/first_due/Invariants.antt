use Rattle.std.proofs.Common.{◌≡◌, drop}
use Rattle.std.specs.List.{find}
use Rattle.node_parts.specs.Sleeping.{is_due}
use Rattle.node_parts.proofs.message_shelf.first_due.Given as goal

abbrev pub invariant-loop-listing : goal.invariant-loop-listing
invariant-loop-listing l = find (is_due l.clock) l.live ≡ find (is_due l.clock) (drop l.listing-index l.live)
