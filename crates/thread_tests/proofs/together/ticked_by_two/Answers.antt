use denote.Param.Send.{sendable}
use Rattle.std.proofs.alloc.Global.TheSendSync as heap
use Rattle.stable_store.proofs.list.ListStore.TheSendSync as list
use Rattle.journal_parts.proofs.seat.Seat.TheSendSync as seat
use Rattle.node_threads.proofs.Crossing.{cluster_sync}
use Rattle.thread_tests.proofs.together.ticked_by_two.Goals as goal

pub join-requires-send-F : goal.join-requires-send-F
join-requires-send-F g c κs within = search (sendable, heap.the_sync, list.the_send, list.the_sync, seat.the_send, cluster_sync) depth 60
