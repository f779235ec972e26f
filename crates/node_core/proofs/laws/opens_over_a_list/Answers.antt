use Rattle.node_core.proofs.Lists.{over_list}
use Rattle.node_core.proofs.laws.opens_over_a_list.Goals as goal

pub returns : goal.returns
returns g c = over_list
