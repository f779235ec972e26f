use Rattle.world_fates.proofs.Standing.{script_run}
use Rattle.world_fates.proofs.laws.a_script_is_a_run.Goals as goal

pub returns : goal.returns
returns c = script_run
