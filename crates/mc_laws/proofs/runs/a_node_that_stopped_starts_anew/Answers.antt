use Rattle.mc_laws.proofs.invariant.Deeds.{starts_anew}
use Rattle.mc_laws.proofs.runs.a_node_that_stopped_starts_anew.Goals as goal

pub returns : goal.returns
returns c = starts_anew
