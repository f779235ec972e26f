use Rattle.std.proofs.Common.{◌≡◌, drop}
use Rattle.node_parts.specs.Waking.{soonest_in}
use Rattle.node_parts.proofs.sleepers.soonest_in.Given as goal

abbrev pub invariant-loop-listing : goal.invariant-loop-listing
invariant-loop-listing l = soonest_in (drop l.listing-index l.live) l.soonest ≡ soonest_in l.live l.fn.until
