use denote.Param.Send.{sendable}
use Rattle.std.proofs.alloc.Global.TheSendSync as heap
use Rattle.journal_tests.proofs.unsteady_store.UnsteadyStore.TheSendSync as store
use Rattle.node_threads.proofs.Crossing.{cluster_sync}
use Rattle.journal_tests.proofs.history.part.Goals as goal

pub for_each_mut-requires-sync-F : goal.for_each_mut-requires-sync-F
for_each_mut-requires-sync-F g c κs within = search (sendable, heap.the_sync, store.the_send, store.the_sync, cluster_sync) depth 60
