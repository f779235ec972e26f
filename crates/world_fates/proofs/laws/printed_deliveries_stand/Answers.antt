use Rattle.world_fates.proofs.Delivered.{deliveries_stand}
use Rattle.world_fates.proofs.laws.printed_deliveries_stand.Goals as goal

pub returns : goal.returns
returns c = deliveries_stand
