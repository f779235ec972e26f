use denote.Param.Send.{sendable}
use Rattle.std.proofs.alloc.Global.TheSendSync as heap
use Rattle.stable_store.proofs.list.ListStore.TheSendSync as list
use Rattle.journal_parts.proofs.seat.Seat.TheSendSync as seat
use Rattle.node_threads.proofs.Crossing.{cluster_sync}
use Rattle.thread_tests.proofs.read_back.journal_of.Goals as goal

pub join-requires-send-F : goal.join-requires-send-F
join-requires-send-F g c κs within = search (sendable, heap.the_sync, list.the_send, list.the_sync, seat.the_send, cluster_sync) depth 60

pub join-requires-2-send-F : goal.join-requires-2-send-F
join-requires-2-send-F g c κs within = search (sendable, heap.the_sync, list.the_send, list.the_sync, seat.the_send, cluster_sync) depth 60
