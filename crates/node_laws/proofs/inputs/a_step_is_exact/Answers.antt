use Rattle.node_laws.proofs.step.WholeSteps.{whole_steps}
use Rattle.node_laws.proofs.inputs.a_step_is_exact.Goals as goal

pub returns : goal.returns
returns c setup one k s stands input up may = whole_steps setup one k s stands input up may
