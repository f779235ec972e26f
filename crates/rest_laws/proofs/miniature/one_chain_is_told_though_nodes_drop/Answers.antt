use Rattle.rest_laws.proofs.synod.Holding.{one_is_told}
use Rattle.rest_laws.proofs.miniature.one_chain_is_told_though_nodes_drop.Goals as goal

pub returns : goal.returns
returns c = one_is_told
