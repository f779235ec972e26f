use Rattle.node_core.specs.Nodes.{seen}
use Rattle.node_core.proofs.Restarts.{as_crashed}
use Rattle.node_core.proofs.laws.opens_as_crashed.Goals as goal

pub returns : goal.returns
returns g c = λ old halted. as_crashed (seen g.S.StableStore.stored old) (seen g.S.StableStore.stored halted)
