use Rattle.node_laws.proofs.cluster.Fresh.{fresh}
use Rattle.node_laws.proofs.clusters.a_later_query_is_told_the_fate.Goals as goal

pub returns : goal.returns
returns c = λ cluster older middle node ticket request next id. fresh cluster older middle node ticket request next id
