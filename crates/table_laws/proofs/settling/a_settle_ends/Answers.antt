use Rattle.table_laws.proofs.Leading.{ends_at}
use Rattle.table_laws.proofs.settling.a_settle_ends.Goals as goal

pub returns : goal.returns
returns c setup s n left m later = ends_at setup s n left m later
