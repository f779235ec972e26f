use Rattle.node_laws.proofs.cluster.NoGrant.{no_grant}
use Rattle.node_laws.proofs.clusters.no_attempt_is_granted_after_a_fate.Goals as goal

pub returns : goal.returns
returns c = no_grant
