use Rattle.smpp_time.proofs.Written.{one_moment}
use Rattle.smpp_time.proofs.laws.moments_are_their_texts.Goals as goal

pub returns : goal.returns
returns c = one_moment
