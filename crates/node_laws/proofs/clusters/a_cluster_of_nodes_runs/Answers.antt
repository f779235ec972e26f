use Rattle.node_laws.proofs.cluster.Clustered.{clustered}
use Rattle.node_laws.proofs.clusters.a_cluster_of_nodes_runs.Goals as goal

pub returns : goal.returns
returns c = clustered
