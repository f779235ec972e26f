use Rattle.node_laws.proofs.cluster.Fresh.{never_unknown}
use Rattle.node_laws.proofs.clusters.a_later_request_is_of_a_known_message.Goals as goal

pub returns : goal.returns
returns c = never_unknown
