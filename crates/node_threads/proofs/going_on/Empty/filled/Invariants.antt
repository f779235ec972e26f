use Rattle.std.proofs.Common.{◌≡◌, ◌+◌, ◌≤◌, length, map}
use Rattle.std.specs.Vec.{vec_capacity, vec_len}
use Rattle.journal_parts.specs.Members.{posted}
use Rattle.node_threads.specs.Actions.{AllGoOn}
use Rattle.node_threads.proofs.going_on.Empty.filled.Given as goal

abbrev pub invariant-loop-post : goal.invariant-loop-post
invariant-loop-post g l =
    AllGoOn g.S.StableStore.stored g.L.Begins.cluster g.L.Begins.kept (map posted l.posts.items)
    × (vec_len l.locks + length l.posts.items ≡ g.L.Begins.cluster.nodes)
    × (g.L.Begins.cluster.nodes ≤ vec_capacity l.locks)

abbrev pub decreases-loop-post : goal.decreases-loop-post
decreases-loop-post g l = length l.posts.items
