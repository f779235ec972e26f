use Rattle.rest_laws.proofs.without.Stepping.{step_rests, step_same}
use Rattle.rest_laws.proofs.rest.a_node_does_without_what_is_at_rest.Goals as goal

pub returns-clause-same : goal.returns-clause-same
returns-clause-same c = step_same

pub returns-clause-rest : goal.returns-clause-rest
returns-clause-rest c = step_rests
