use Rattle.world_fates.proofs.Example.{delivery_told}
use Rattle.world_fates.proofs.laws.a_delivery_is_told.Goals as goal

pub returns : goal.returns
returns c = delivery_told
