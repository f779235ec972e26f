use Rattle.table_laws.proofs.Leading.{goes_on_by_one}
use Rattle.table_laws.proofs.settling.a_settle_goes_on.Goals as goal

pub returns : goal.returns
returns c setup s n = goes_on_by_one setup s n
