use Rattle.std.proofs.Common.{◌≡◌, ◌+◌, ◌≤◌}
use Rattle.std.specs.Vec.{vec_capacity, vec_len}
use Rattle.node_threads.proofs.opened.Opened.into_cluster.Given as goal

abbrev pub invariant-loop-member : goal.invariant-loop-member
invariant-loop-member g l =
    (vec_len l.members + vec_len l.locks ≡ g.L.Begins.cluster.nodes)
    × (g.L.Begins.cluster.nodes ≤ vec_capacity l.members)
    × (g.L.Begins.cluster.nodes ≤ vec_capacity l.locks)

abbrev pub decreases-loop-member : goal.decreases-loop-member
decreases-loop-member g l = vec_len l.members
