use denote.Param.Send.{sendable}
use Rattle.server.proofs.Crossing.{arriving, shared_sync}
use Rattle.server.proofs.starting.start_worker.Goals as goal

pub spawn-requires-send-F : goal.spawn-requires-send-F
spawn-requires-send-F g c κs within = search (sendable, arriving, shared_sync) depth 60
