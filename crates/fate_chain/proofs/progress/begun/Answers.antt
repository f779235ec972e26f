use Rattle.fate_chain.proofs.Standings.{standing-begun}
use Rattle.fate_chain.proofs.progress.begun.Goals as goal

pub returns-in-Some : goal.returns-in-Some
returns-in-Some c decree is =
    standing-begun c.args.id decree c.args.first c.in-Some.terms c.node.result is c.in-Some.ensures.1 c.in-Some.ensures.0 c.node.ensures
