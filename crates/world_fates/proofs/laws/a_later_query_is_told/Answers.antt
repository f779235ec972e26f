use Rattle.world_fates.proofs.LaterExample.{told_later}
use Rattle.world_fates.proofs.laws.a_later_query_is_told.Goals as goal

pub returns : goal.returns
returns c = told_later
