use Rattle.mc_laws.proofs.invariant.Answers.{tells_follow}
use Rattle.mc_laws.proofs.replies.tells_follow_their_question.Goals as goal

pub returns : goal.returns
returns c = tells_follow
