use Rattle.table_laws.proofs.Leading.{one_end}
use Rattle.table_laws.proofs.settling.a_settle_has_one_end.Goals as goal

pub returns : goal.returns
returns c setup s n m left also = one_end setup s n m left also
