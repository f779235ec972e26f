use denote.Param.Send.{sendable}
use Rattle.node_stores.proofs.Crossing.{node_store_send, node_store_sync}
use Rattle.serve_runner.proofs.running.serve_over.Goals as goal

pub serve-requires-send-S : goal.serve-requires-send-S
serve-requires-send-S g c κs within = search (sendable, node_store_send) depth 60

pub serve-requires-sync-S : goal.serve-requires-sync-S
serve-requires-sync-S g c κs within = search (sendable, node_store_sync) depth 60
