use denote.Param.Send.{sendable}
use Rattle.server.proofs.Crossing.{crossing}
use Rattle.server.proofs.starting.start_log.Goals as goal

pub spawn-requires-send-F : goal.spawn-requires-send-F
spawn-requires-send-F g c κs within = search (sendable, crossing) depth 60
