use Rattle.rest_laws.proofs.runs.Given.{cancelled, deletes}
use Rattle.rest_laws.proofs.histories.nodes_that_forget_delete_what_is_cancelled.Goals as goal

pub returns-clause-deleted : goal.returns-clause-deleted
returns-clause-deleted c = deletes

pub returns-clause-no_grant : goal.returns-clause-no_grant
returns-clause-no_grant c = cancelled
