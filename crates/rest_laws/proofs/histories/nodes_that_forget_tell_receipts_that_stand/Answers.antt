use Rattle.rest_laws.proofs.runs.Given.{receipts}
use Rattle.rest_laws.proofs.histories.nodes_that_forget_tell_receipts_that_stand.Goals as goal

pub returns : goal.returns
returns c = receipts
