use Rattle.node_laws.proofs.step.ArrivalSteps.{arrival_steps}
use Rattle.node_laws.proofs.requests.an_arrival_is_exact.Goals as goal

pub returns : goal.returns
returns c setup k s stands works mine request may = arrival_steps setup k s stands works mine request may
