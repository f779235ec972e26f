use Rattle.world_runs.proofs.Linking.{has_one_receipt}
use Rattle.world_runs.proofs.laws.a_world_tells_one_receipt.Goals as goal

pub returns : goal.returns
returns c h = has_one_receipt h
