use Rattle.mc_laws.proofs.invariant.Answers.{settled_covers}
use Rattle.mc_laws.proofs.replies.a_settling_majority_has_seen_every_choice.Goals as goal

pub returns : goal.returns
returns c = settled_covers
