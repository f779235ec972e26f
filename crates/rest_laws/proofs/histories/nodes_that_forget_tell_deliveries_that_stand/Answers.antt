use Rattle.rest_laws.proofs.runs.Given.{stands}
use Rattle.rest_laws.proofs.histories.nodes_that_forget_tell_deliveries_that_stand.Goals as goal

pub returns : goal.returns
returns c = stands
