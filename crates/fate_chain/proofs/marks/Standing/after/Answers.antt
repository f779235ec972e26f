use Rattle.std.proofs.Common.{arith}
use Rattle.fate_chain.proofs.Standings.{standing-after, attempts-few}
use Rattle.fate_chain.proofs.marks.Standing.after.Goals as goal

pub returns : goal.returns
returns c decrees decree few stands marked may =
    standing-after c.args.self c.args.next decrees decree _ stands marked may
    (omega (arith, c.saturating_add.ensures, c.attempts.ensures.attempts, c.attempts.ensures.range, attempts-few decrees, stands.attempts))
