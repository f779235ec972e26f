use denote.Param.Send.{sendable}
use Rattle.std.proofs.alloc.Global.TheSendSync as heap
use Rattle.stable_store.proofs.list.ListStore.TheSendSync as list
use Rattle.node_threads.proofs.Crossing.{cluster_sync}
use Rattle.thread_tests.proofs.all_slips.journal_of.Goals as goal

pub for_each_mut-requires-sync-F : goal.for_each_mut-requires-sync-F
for_each_mut-requires-sync-F g c κs within = search (sendable, heap.the_sync, list.the_send, list.the_sync, cluster_sync) depth 60
