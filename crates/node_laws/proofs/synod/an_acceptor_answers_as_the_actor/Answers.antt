use Rattle.node_model.proofs.Told.{told_is}
use Rattle.node_laws.proofs.invariant.Accepting.{prepare_answered, propose_answered}
use Rattle.node_laws.proofs.synod.an_acceptor_answers_as_the_actor.Goals as goal

pub returns-clause-prepare : goal.returns-clause-prepare
returns-clause-prepare c = prepare_answered

pub returns-clause-propose : goal.returns-clause-propose
returns-clause-propose c = propose_answered

pub returns-clause-tell : goal.returns-clause-tell
returns-clause-tell c = told_is
