use Rattle.connection_parts.proofs.Telling.{is_told}
use Rattle.connection_parts.proofs.laws.time_is_near_left_or_awaited.Goals as goal

pub returns : goal.returns
returns c = is_told
