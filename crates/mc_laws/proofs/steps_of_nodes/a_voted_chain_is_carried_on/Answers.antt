use Rattle.mc_laws.proofs.story.Carrying.{carried_on}
use Rattle.mc_laws.proofs.steps_of_nodes.a_voted_chain_is_carried_on.Goals as goal

pub returns : goal.returns
returns c = carried_on
