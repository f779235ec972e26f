use Rattle.std.proofs.Common.{◌≡◌, drop}
use Rattle.journal_parts.specs.Marks.{marked_in}
use Rattle.journal_parts.proofs.marks.Marks.set_all.Given as goal

abbrev pub invariant-loop-seat : goal.invariant-loop-seat
invariant-loop-seat g l = (marked_in (drop l.seat-index l.seats) l.self.marks ≡ marked_in l.seats l.fn.self.marks) × (l.self.most ≡ l.fn.self.most)
