use Rattle.world_fates.proofs.Fresh.{later_queries}
use Rattle.world_fates.proofs.laws.later_queries_tell_the_fate.Goals as goal

pub returns : goal.returns
returns c = later_queries
