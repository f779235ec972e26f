use Rattle.world.specs.Members.{AreOpened}
use Rattle.world.proofs.world.opened.Given as goal

abbrev pub invariant-loop-place : goal.invariant-loop-place
invariant-loop-place l = AreOpened l.nodes l.first_serial l.default_validity l.place l.members.items
