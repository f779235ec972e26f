use Rattle.mc_laws.proofs.invariant.Deeds.{reports}
use Rattle.mc_laws.proofs.runs.receipts_are_of_the_node_of_the_id.Goals as goal

pub returns : goal.returns
returns c = reports
