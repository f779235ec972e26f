use Rattle.node_runs.proofs.Happening.{stops_as_opened}
use Rattle.node_runs.proofs.laws.a_stop_happens.Goals as goal

pub returns : goal.returns
returns g c = stops_as_opened g.S.StableStore.stored
