use Rattle.std.proofs.Common.{◌≡◌, ◌+◌, length}
use Rattle.std.specs.Vec.{vec_len}
use Rattle.node_threads.specs.Actions.{AllBegin}
use Rattle.node_threads.proofs.cluster.locks_of.Given as goal

abbrev pub invariant-loop-node : goal.invariant-loop-node
invariant-loop-node g l =
    AllBegin g.L.Begins.cluster g.L.Begins.kept l.nodes.items × (vec_len l.locks + length l.nodes.items ≡ length l.fn.nodes.items)

abbrev pub decreases-loop-node : goal.decreases-loop-node
decreases-loop-node g l = length l.nodes.items
