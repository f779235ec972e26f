use Rattle.rest_laws.proofs.without.Resting.{no_grant, no_rule}
use Rattle.rest_laws.proofs.rest.nothing_is_due_at_rest.Goals as goal

pub returns-clause-tick : goal.returns-clause-tick
returns-clause-tick c = no_rule

pub returns-clause-grant : goal.returns-clause-grant
returns-clause-grant c = no_grant
