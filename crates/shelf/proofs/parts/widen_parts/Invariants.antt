use Rattle.shelf.proofs.Rooms.{AreWidened}
use Rattle.shelf.proofs.parts.widen_parts.Given as goal

abbrev pub invariant-loop-place : goal.invariant-loop-place
invariant-loop-place g l = AreWidened l.fn.parts.items l.parts.items l.fn.room.items l.room.items l.place
