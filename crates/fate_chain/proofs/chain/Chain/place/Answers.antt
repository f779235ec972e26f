use Rattle.std.proofs.Common.{length, reverse, ap, arith}
use Rattle.std.proofs.lemmas.List.{length-reverse}
use Rattle.fate_chain.proofs.Standings.{has_place}
use Rattle.fate_chain.proofs.chain.Chain.place.Goals as goal

pub overflow_cast-result : goal.overflow_cast-result
overflow_cast-result c =
    let place = has_place c.self.inside.id (reverse c.self.inside.decrees) c.self.invariant in
    omega (arith, place.most, length-reverse c.self.inside.decrees, ap length c.list.ensures)

pub returns-clause-range : goal.returns-clause-range
returns-clause-range c =
    let place = has_place c.self.inside.id (reverse c.self.inside.decrees) c.self.invariant in
    omega (arith, place.most, length-reverse c.self.inside.decrees, ap length c.list.ensures)
