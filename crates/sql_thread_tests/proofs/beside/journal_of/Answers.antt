use denote.Param.Send.{sendable}
use Rattle.std.proofs.alloc.Global.TheSendSync as heap
use Rattle.node_stores.proofs.Crossing.{memory_crosses}
use Rattle.node_threads.proofs.Crossing.{cluster_sync}
use Rattle.sql_thread_tests.proofs.hands.Hands.TheSendSync as hands
use Rattle.sql_thread_tests.proofs.beside.journal_of.Goals as goal

pub join-played-requires-send-F : goal.join-played-requires-send-F
join-played-requires-send-F g c κs within = search (sendable, heap.the_sync, memory_crosses, hands.the_send, cluster_sync) depth 60
