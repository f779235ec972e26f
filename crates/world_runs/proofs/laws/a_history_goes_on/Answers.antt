use Rattle.world_runs.proofs.Linking.{goes_on_by}
use Rattle.world_runs.proofs.laws.a_history_goes_on.Goals as goal

pub returns : goal.returns
returns c old mid new first second one other = goes_on_by old mid new first second one other
