use Rattle.std.proofs.Common.{length}
use Rattle.node_threads.proofs.Loadings.{HaveLoaded}
use Rattle.node_threads.proofs.loading.load_each.Given as goal

abbrev pub invariant-loop-store : goal.invariant-loop-store
invariant-loop-store g l =
    HaveLoaded g.S.StableStore.stored (length l.fn.stores.items) l.defaults l.fn.stores.items l.left.items l.loaded.items

abbrev pub decreases-loop-store : goal.decreases-loop-store
decreases-loop-store g l = length l.left.items
