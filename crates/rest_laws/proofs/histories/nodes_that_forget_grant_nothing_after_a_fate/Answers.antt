use Rattle.rest_laws.proofs.runs.Given.{grants_none}
use Rattle.rest_laws.proofs.histories.nodes_that_forget_grant_nothing_after_a_fate.Goals as goal

pub returns : goal.returns
returns c = grants_none
