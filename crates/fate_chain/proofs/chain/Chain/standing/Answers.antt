use Rattle.std.proofs.Common.{reverse, arith}
use Rattle.mc_parts.proofs.Lengths.{most_attempts}
use Rattle.fate_chain.proofs.chain.Chain.standing.Goals as goal

pub returns-clause-attempts : goal.returns-clause-attempts
returns-clause-attempts c =
    let stands = c.in-Stands.ensures in
    omega (arith, most_attempts c.self.inside.id (reverse c.list.result.now) stands.0, stands.1.attempts)
