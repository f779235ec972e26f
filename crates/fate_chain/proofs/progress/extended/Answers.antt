use Rattle.fate_chain.proofs.Standings.{permitted-more}
use Rattle.mc_parts.proofs.Lengths.{most_decrees}
use Rattle.fate_chain.proofs.progress.extended.Goals as goal

pub returns-then-permits : goal.returns-then-permits
returns-then-permits c id decrees decree permitted stands marked =
    let may = (c.permits.ensures decrees decree stands marked).0 c.if-permits.true in
    (permitted-more id decrees decree permitted may, c.after.ensures decrees decree (most_decrees id decrees permitted) stands marked may)
