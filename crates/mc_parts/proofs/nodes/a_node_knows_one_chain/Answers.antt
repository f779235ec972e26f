use Rattle.mc_parts.proofs.Known.{knows_one}
use Rattle.mc_parts.proofs.nodes.a_node_knows_one_chain.Goals as goal

pub returns : goal.returns
returns c = knows_one
