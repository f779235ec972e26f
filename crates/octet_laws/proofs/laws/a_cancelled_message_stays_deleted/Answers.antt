use Rattle.octet_laws.proofs.Deleted.{stays_deleted}
use Rattle.octet_laws.proofs.laws.a_cancelled_message_stays_deleted.Goals as goal

pub returns : goal.returns
returns c = stays_deleted
