use Rattle.node_laws.proofs.step.AcceptorSteps.{ask_steps, prepare_steps, propose_steps}
use Rattle.node_laws.proofs.steps.a_step_of_an_acceptor_is_exact.Goals as goal

pub returns-clause-prepare : goal.returns-clause-prepare
returns-clause-prepare c = prepare_steps

pub returns-clause-propose : goal.returns-clause-propose
returns-clause-propose c = propose_steps

pub returns-clause-ask : goal.returns-clause-ask
returns-clause-ask c = ask_steps
