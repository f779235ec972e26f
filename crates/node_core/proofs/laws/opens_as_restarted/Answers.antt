use Rattle.node_core.proofs.Restarts.{as_restarted}
use Rattle.node_core.proofs.laws.opens_as_restarted.Goals as goal

pub returns : goal.returns
returns g c = as_restarted
