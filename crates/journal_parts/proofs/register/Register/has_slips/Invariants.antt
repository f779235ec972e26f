use Rattle.std.proofs.Common.{drop}
use Rattle.journal_parts.specs.Closing.{StandAbove}
use Rattle.journal_parts.proofs.register.Register.has_slips.Given as goal

abbrev pub invariant-loop-slip : goal.invariant-loop-slip
invariant-loop-slip g l =
    StandAbove l.last g.L.Begins.numbers.count l.self.entries (drop l.slip-index l.slips) →
    StandAbove 0 g.L.Begins.numbers.count l.self.entries l.slips
