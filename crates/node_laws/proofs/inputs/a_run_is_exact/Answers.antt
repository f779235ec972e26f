use Rattle.mc_model.specs.node.Alone.{opened_new as node_new}
use Rattle.node_model.specs.Stepped.{opened_new}
use Rattle.node_laws.proofs.step.Opening.{new_stands}
use Rattle.node_laws.proofs.step.WholeSteps.{whole_runs}
use Rattle.node_laws.proofs.inputs.a_run_is_exact.Goals as goal

pub returns : goal.returns
returns c setup one inputs come = whole_runs setup one (opened_new setup) (node_new setup.first_serial) (new_stands setup) inputs come
