use Rattle.std.proofs.Common.{◌≤◌, length}
use Rattle.journal_parts.proofs.Entering.{IsEntering}
use Rattle.journal_parts.proofs.register.Register.enter_each.Given as goal

abbrev pub invariant-loop-one : goal.invariant-loop-one
invariant-loop-one g l =
    IsEntering l.fn.self.entries l.fn.seat.slips l.fn.copies.items l.left.items l.self.entries l.seat.slips
    × (length l.left.items ≤ l.seat.room)

abbrev pub decreases-loop-one : goal.decreases-loop-one
decreases-loop-one g l = length l.left.items
