use Rattle.node_laws.proofs.step.Opening.{new_stands, restart_steps}
use Rattle.node_laws.proofs.steps.an_opening_is_exact.Goals as goal

pub returns-clause-new : goal.returns-clause-new
returns-clause-new c = new_stands

pub returns-clause-restart : goal.returns-clause-restart
returns-clause-restart c = restart_steps
