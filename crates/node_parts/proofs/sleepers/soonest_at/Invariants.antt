use Rattle.std.proofs.Common.{◌≡◌, drop}
use Rattle.node_parts.specs.Waking.{soonest_at}
use Rattle.node_parts.proofs.sleepers.soonest_at.Given as goal

abbrev pub invariant-loop-id : goal.invariant-loop-id
invariant-loop-id l = soonest_at l.live.items (drop l.id-index l.ids) l.soonest ≡ soonest_at l.live.items l.ids l.fn.until
