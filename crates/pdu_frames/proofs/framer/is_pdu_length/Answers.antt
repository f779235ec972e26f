use Rattle.std.proofs.Common.{rules}
use Rattle.pdu_frames.proofs.framer.is_pdu_length.Goals as goal

pub returns : goal.returns
returns c = search rules
