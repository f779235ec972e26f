use Rattle.mc_laws.proofs.invariant.Answers.{tellers_meet}
use Rattle.mc_laws.proofs.replies.tellers_meet_a_choice.Goals as goal

pub returns : goal.returns
returns c = tellers_meet
