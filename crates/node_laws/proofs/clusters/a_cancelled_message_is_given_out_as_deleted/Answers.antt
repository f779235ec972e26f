use Rattle.node_laws.proofs.cluster.GivenOut.{cancelled_stays, cancels_delete}
use Rattle.node_laws.proofs.clusters.a_cancelled_message_is_given_out_as_deleted.Goals as goal

pub returns-clause-deleted : goal.returns-clause-deleted
returns-clause-deleted c = cancels_delete

pub returns-clause-no_grant : goal.returns-clause-no_grant
returns-clause-no_grant c = cancelled_stays
