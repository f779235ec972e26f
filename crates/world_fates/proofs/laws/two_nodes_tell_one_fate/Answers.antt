use Rattle.world_fates.proofs.Example.{two_nodes_tell}
use Rattle.world_fates.proofs.laws.two_nodes_tell_one_fate.Goals as goal

pub returns : goal.returns
returns c = two_nodes_tell
