use Rattle.rest_laws.proofs.runs.Stepping.{gives, goes}
use Rattle.rest_laws.proofs.behind.a_step_of_a_node_that_forgot_goes_on.Goals as goal

pub returns-clause-goes : goal.returns-clause-goes
returns-clause-goes c = goes

pub returns-clause-gives : goal.returns-clause-gives
returns-clause-gives c = gives
