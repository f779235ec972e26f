use Rattle.node_core.proofs.Restarts.{over_held}
use Rattle.node_core.proofs.laws.opens_over_what_is_held.Goals as goal

pub returns : goal.returns
returns g c = over_held g.S.StableStore.stored g.met.S.StableStore.settled
