use Rattle.std.proofs.Common.{◌≡◌}
use Rattle.std.specs.Vec.{vec_capacity}
use Rattle.shelf.proofs.Rooms.{AreAllOf}
use Rattle.shelf.proofs.parts.parts_of.Given as goal

abbrev pub invariant-loop : goal.invariant-loop
invariant-loop g l = AreAllOf l.room l.parts.items l.counter × (vec_capacity l.parts ≡ 10)
