use Rattle.std.proofs.Common.{length}
use Rattle.node_threads.proofs.Loadings.{AreBeginning}
use Rattle.node_threads.proofs.loading.begin_nodes.Given as goal

abbrev pub invariant-loop-one : goal.invariant-loop-one
invariant-loop-one g l = AreBeginning g.S.StableStore.stored l.fn.loaded.items l.left.items l.nodes.items l.lives.items

abbrev pub decreases-loop-one : goal.decreases-loop-one
decreases-loop-one g l = length l.left.items
