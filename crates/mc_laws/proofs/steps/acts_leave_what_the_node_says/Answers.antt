use Rattle.mc_laws.proofs.step.Behind.{actor_so, records_so, packets_so}
use Rattle.mc_laws.proofs.steps.acts_leave_what_the_node_says.Goals as goal

pub returns-clause-actor : goal.returns-clause-actor
returns-clause-actor c = actor_so

pub returns-clause-records : goal.returns-clause-records
returns-clause-records c = records_so

pub returns-clause-packets : goal.returns-clause-packets
returns-clause-packets c = packets_so
