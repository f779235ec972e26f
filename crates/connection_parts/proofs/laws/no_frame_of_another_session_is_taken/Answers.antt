use Rattle.connection_parts.proofs.Belonging.{taken_is_own}
use Rattle.connection_parts.proofs.laws.no_frame_of_another_session_is_taken.Goals as goal

pub returns : goal.returns
returns c = taken_is_own
