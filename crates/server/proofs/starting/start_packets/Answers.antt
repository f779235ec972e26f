use denote.Param.Send.{sendable}
use Rattle.server.proofs.Crossing.{crossing, shared_sync}
use Rattle.server.proofs.starting.start_packets.Goals as goal

pub spawn-requires-send-F : goal.spawn-requires-send-F
spawn-requires-send-F g c κs within = search (sendable, crossing, shared_sync) depth 60
