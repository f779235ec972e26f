use Rattle.mc_laws.proofs.story.Settled.{shows}
use Rattle.mc_laws.proofs.steps_of_nodes.a_tell_settles_a_query.Goals as goal

pub returns : goal.returns
returns c = shows
