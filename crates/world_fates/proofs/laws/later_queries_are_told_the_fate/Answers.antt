use Rattle.world_fates.proofs.Sequences.{queries_told}
use Rattle.world_fates.proofs.laws.later_queries_are_told_the_fate.Goals as goal

pub returns : goal.returns
returns c = queries_told
