use Rattle.world_runs.proofs.Stating.{are_told}
use Rattle.world_runs.proofs.laws.statements_are_told.Goals as goal

pub returns : goal.returns
returns c answers = are_told answers
