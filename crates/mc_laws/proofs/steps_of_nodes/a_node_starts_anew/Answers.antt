use Rattle.mc_laws.proofs.story.Idle.{restarts}
use Rattle.mc_laws.proofs.steps_of_nodes.a_node_starts_anew.Goals as goal

pub returns : goal.returns
returns c = restarts
