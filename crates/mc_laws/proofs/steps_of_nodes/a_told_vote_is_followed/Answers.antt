use Rattle.mc_laws.proofs.story.Following.{follows}
use Rattle.mc_laws.proofs.steps_of_nodes.a_told_vote_is_followed.Goals as goal

pub returns : goal.returns
returns c = follows
