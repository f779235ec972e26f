use Rattle.std.proofs.Common.{◌≡◌, ◌+◌, ◌≤◌}
use Rattle.std.specs.Vec.{vec_capacity, vec_len}
use Rattle.node_threads.proofs.opened.Opened.of.Given as goal

abbrev pub invariant-loop-lock : goal.invariant-loop-lock
invariant-loop-lock g l =
    (vec_len l.members + vec_len l.locks ≡ g.L.Begins.cluster.nodes)
    × (g.L.Begins.cluster.nodes ≤ vec_capacity l.members)
    × (g.L.Begins.cluster.nodes ≤ vec_capacity l.locks)

abbrev pub decreases-loop-lock : goal.decreases-loop-lock
decreases-loop-lock g l = vec_len l.locks
