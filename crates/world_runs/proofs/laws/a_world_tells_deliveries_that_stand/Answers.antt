use Rattle.world_runs.proofs.Linking.{deliveries_stand_in}
use Rattle.world_runs.proofs.laws.a_world_tells_deliveries_that_stand.Goals as goal

pub returns : goal.returns
returns c h fresh = deliveries_stand_in h fresh
