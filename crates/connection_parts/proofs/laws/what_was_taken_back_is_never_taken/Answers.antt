use Rattle.connection_parts.proofs.TakingBack.{never_taken}
use Rattle.connection_parts.proofs.laws.what_was_taken_back_is_never_taken.Goals as goal

pub returns : goal.returns
returns c = never_taken
