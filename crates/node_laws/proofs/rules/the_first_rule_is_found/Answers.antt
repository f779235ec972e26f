use Rattle.node_laws.proofs.step.FirstRule.{agrees_on, is_first, none_fits}
use Rattle.node_laws.proofs.rules.the_first_rule_is_found.Goals as goal

pub returns-clause-found : goal.returns-clause-found
returns-clause-found c setup k s stands up id = is_first setup s.actor s.records k up id (agrees_on setup k s stands.agrees id)

pub returns-clause-none : goal.returns-clause-none
returns-clause-none c setup k s stands up id = none_fits setup s.actor s.records k up id (agrees_on setup k s stands.agrees id)
