use Rattle.mc_laws.proofs.story.Idle.{promises, stops}
use Rattle.mc_laws.proofs.steps_of_nodes.an_acceptor_promises_or_stops.Goals as goal

pub returns-clause-promises : goal.returns-clause-promises
returns-clause-promises c = promises

pub returns-clause-stops : goal.returns-clause-stops
returns-clause-stops c = stops
