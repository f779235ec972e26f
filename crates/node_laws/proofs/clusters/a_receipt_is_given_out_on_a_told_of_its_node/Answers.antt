use Rattle.node_laws.proofs.cluster.GivenOut.{receipts_stand}
use Rattle.node_laws.proofs.clusters.a_receipt_is_given_out_on_a_told_of_its_node.Goals as goal

pub returns : goal.returns
returns c = receipts_stand
