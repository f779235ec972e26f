use Rattle.node_laws.proofs.cluster.OneReceipt.{one_of_each}
use Rattle.node_laws.proofs.clusters.one_receipt_is_given_out.Goals as goal

pub returns : goal.returns
returns c = one_of_each
