use Rattle.node_runs.proofs.Happening.{one_run}
use Rattle.node_runs.proofs.laws.a_node_goes_on.Goals as goal

pub returns : goal.returns
returns g c = one_run
