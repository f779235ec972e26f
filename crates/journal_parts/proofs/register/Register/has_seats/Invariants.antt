use Rattle.std.proofs.Common.{drop}
use Rattle.journal_parts.specs.Closing.{AllStand}
use Rattle.journal_parts.proofs.register.Register.has_seats.Given as goal

abbrev pub invariant-loop-seat : goal.invariant-loop-seat
invariant-loop-seat g l =
    AllStand g.L.Begins.numbers.count l.self.entries (drop l.seat-index l.seats) → AllStand g.L.Begins.numbers.count l.self.entries l.seats
