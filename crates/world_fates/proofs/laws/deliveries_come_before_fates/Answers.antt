use Rattle.world_fates.proofs.Delivering.{deliveries_first}
use Rattle.world_fates.proofs.laws.deliveries_come_before_fates.Goals as goal

pub returns : goal.returns
returns c = deliveries_first
