use Rattle.std.proofs.Common.{rules}
use Rattle.pdu_frames.proofs.framer.front_end.Goals as goal

pub returns-in-Some : goal.returns-in-Some
returns-in-Some c = search rules
