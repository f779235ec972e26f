use Rattle.node_runs.proofs.Running.{one_actor}
use Rattle.node_runs.proofs.laws.a_node_is_one_actor.Goals as goal

pub returns : goal.returns
returns g c = one_actor
