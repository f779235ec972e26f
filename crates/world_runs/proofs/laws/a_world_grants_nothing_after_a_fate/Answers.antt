use Rattle.world_runs.proofs.Linking.{grants_none_after}
use Rattle.world_runs.proofs.laws.a_world_grants_nothing_after_a_fate.Goals as goal

pub returns : goal.returns
returns c h = grants_none_after h
