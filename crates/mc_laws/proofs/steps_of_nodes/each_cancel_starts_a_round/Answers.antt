use Rattle.mc_laws.proofs.story.Cancels.{again}
use Rattle.mc_laws.proofs.steps_of_nodes.each_cancel_starts_a_round.Goals as goal

pub returns : goal.returns
returns c = again
