use Rattle.rest_laws.proofs.runs.Given.{one_fate}
use Rattle.rest_laws.proofs.histories.nodes_that_forget_tell_one_fate.Goals as goal

pub returns : goal.returns
returns c = one_fate
