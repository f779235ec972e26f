use Rattle.std.proofs.Common.{◌≡◌, ◌++◌, map}
use Rattle.node_stores.specs.Stores.{is_on_disk}
use Rattle.cluster_stores.specs.Places.{is_seen_on_disk}
use Rattle.cluster_stores.proofs.marking.make_stores.Given as goal

abbrev pub invariant-loop-place : goal.invariant-loop-place
invariant-loop-place l =
    map is_on_disk l.stores.items ++ map is_seen_on_disk l.place-iterator.rest.items ≡ map is_seen_on_disk l.fn.looked.seen.items
