use Rattle.mc_laws.proofs.story.FirstStep.{first_exact}
use Rattle.mc_laws.proofs.stories.a_submit_starts_a_round.Goals as goal

pub returns : goal.returns
returns c = first_exact
