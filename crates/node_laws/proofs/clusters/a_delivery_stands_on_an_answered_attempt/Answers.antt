use Rattle.node_laws.proofs.cluster.Delivered.{delivered}
use Rattle.node_laws.proofs.clusters.a_delivery_stands_on_an_answered_attempt.Goals as goal

pub returns : goal.returns
returns c = delivered
