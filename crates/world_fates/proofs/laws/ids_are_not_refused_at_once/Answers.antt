use Rattle.world_fates.proofs.AtOnce.{ids_known}
use Rattle.world_fates.proofs.laws.ids_are_not_refused_at_once.Goals as goal

pub returns : goal.returns
returns c = ids_known
