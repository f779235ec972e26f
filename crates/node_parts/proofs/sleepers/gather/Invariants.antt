use Rattle.std.proofs.Common.{◌≡◌, ◌≤◌, ◌+◌, ◌++◌, drop}
use Rattle.std.specs.Vec.{vec_capacity, vec_len}
use Rattle.node_parts.specs.Waking.{awake_in}
use Rattle.node_parts.proofs.sleepers.gather.Given as goal

abbrev pub invariant-loop-listing : goal.invariant-loop-listing
invariant-loop-listing l =
    (l.ids.items ++ awake_in (drop l.listing-index l.live) ≡ l.fn.ids.items ++ awake_in l.live)
    × ((vec_len l.ids ≤ vec_len l.fn.ids + l.listing-index) × (vec_capacity l.ids ≡ vec_capacity l.initial.ids))
