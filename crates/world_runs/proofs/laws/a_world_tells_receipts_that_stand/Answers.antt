use Rattle.world_runs.proofs.Linking.{receipts_stand_all}
use Rattle.world_runs.proofs.laws.a_world_tells_receipts_that_stand.Goals as goal

pub returns : goal.returns
returns c h = receipts_stand_all h
