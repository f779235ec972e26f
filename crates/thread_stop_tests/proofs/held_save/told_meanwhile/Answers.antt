use denote.Param.Send.{sendable}
use Rattle.std.proofs.alloc.Global.TheSendSync as heap
use Rattle.stable_store.proofs.holding.HoldingStore.TheSendSync as holding
use Rattle.stable_store.proofs.latch.Latch.TheSendSync as latch
use Rattle.stable_store.proofs.latch.LatchHold.TheSendSync as hold
use Rattle.stable_store.proofs.list.ListStore.TheSendSync as list
use Rattle.journal_parts.proofs.seat.Seat.TheSendSync as seat
use Rattle.node_threads.proofs.Crossing.{cluster_sync}
use Rattle.thread_stop_tests.proofs.held_save.told_meanwhile.Goals as goal

pub join-saved-requires-send-F : goal.join-saved-requires-send-F
join-saved-requires-send-F g c κs within =
    search (sendable, heap.the_sync, holding.the_send, holding.the_sync, hold.the_send, hold.the_sync, latch.the_sync, list.the_send, list.the_sync, seat.the_send, cluster_sync) depth 60
