use Rattle.node_laws.proofs.cluster.Chosen.{given_out_was_chosen}
use Rattle.node_laws.proofs.clusters.what_is_given_out_was_chosen.Goals as goal

pub returns : goal.returns
returns c = given_out_was_chosen
