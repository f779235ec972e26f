use Rattle.node_core.specs.Nodes.{seen}
use Rattle.node_core.proofs.Restarts.{as_told}
use Rattle.node_core.proofs.laws.reopens_as_crashed.Goals as goal

pub returns : goal.returns
returns g c = λ old halted. as_told (seen g.S.StableStore.stored old) (seen g.S.StableStore.stored halted)
