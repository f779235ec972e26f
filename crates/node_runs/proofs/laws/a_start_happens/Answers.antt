use Rattle.node_runs.proofs.Happening.{starts_as_opened}
use Rattle.node_runs.proofs.laws.a_start_happens.Goals as goal

pub returns : goal.returns
returns g c = starts_as_opened g.S.StableStore.stored g.met.S.StableStore.settled
