use Rattle.node_laws.proofs.cluster.Stated.{one_final}
use Rattle.node_laws.proofs.clusters.one_fate_is_given_out.Goals as goal

pub returns : goal.returns
returns c = one_final
