use Rattle.world_runs.proofs.Linking.{has_one_fate}
use Rattle.world_runs.proofs.laws.a_world_tells_one_fate.Goals as goal

pub returns : goal.returns
returns c h = has_one_fate h
