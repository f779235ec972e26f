use Rattle.std.proofs.Common.{◌≡◌, map, take}
use Rattle.cluster_stores.specs.Places.{has_path, is_seen_on_disk}
use Rattle.cluster_stores.proofs.looking.look.Given as goal

abbrev pub invariant-loop-node : goal.invariant-loop-node
invariant-loop-node g l = map is_seen_on_disk l.looked.seen.items ≡ map has_path (take l.node-index l.nodes)
