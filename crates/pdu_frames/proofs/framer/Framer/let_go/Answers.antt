use Rattle.std.proofs.Common.{rules}
use Rattle.pdu_frames.proofs.framer.Framer.let_go.Goals as goal

pub returns : goal.returns
returns c = search rules
