use Rattle.std.proofs.Common.{◌≡◌, ◌+◌, drop}
use Rattle.journal_parts.specs.Marks.{slips_in}
use Rattle.journal_parts.proofs.comparing.are_as_many.Given as goal

abbrev pub invariant-loop-seat : goal.invariant-loop-seat
invariant-loop-seat g l = slips_in l.seats + l.left ≡ l.count + slips_in (drop l.seat-index l.seats)
