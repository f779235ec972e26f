use Rattle.world.proofs.Restarting.{AreBegun}
use Rattle.world.proofs.world.World.start_over.Given as goal

abbrev pub invariant-loop-place : goal.invariant-loop-place
invariant-loop-place l = AreBegun l.initial.self l.place l.self
