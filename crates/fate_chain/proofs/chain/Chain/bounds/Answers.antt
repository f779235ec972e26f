use Rattle.std.proofs.Common.{reverse, arith}
use Rattle.fate_chain.proofs.Permitted.{has_taken}
use Rattle.fate_chain.proofs.Standings.{has_place}
use Rattle.fate_chain.proofs.chain.Chain.bounds.Goals as goal

pub returns-clause-permitted : goal.returns-clause-permitted
returns-clause-permitted c = rw (← c.self.view_is) c.self.invariant

pub returns-clause-place : goal.returns-clause-place
returns-clause-place c = rw (← c.self.view_is)
    (let place = has_place c.self.inside.id (reverse c.self.inside.decrees) c.self.invariant in omega (arith, place.most, place.least))

pub returns-clause-taken : goal.returns-clause-taken
returns-clause-taken c = rw (← c.self.view_is) (has_taken c.self.inside.id (reverse c.self.inside.decrees) c.self.invariant)
