use Rattle.std.proofs.Common.{rules}
use Rattle.pdu_frames.proofs.framer.Framer.frame.Goals as goal

pub returns-in-0-2-clause-frame : goal.returns-in-0-2-clause-frame
returns-in-0-2-clause-frame c = search rules

pub returns-in-0-2-clause-part : goal.returns-in-0-2-clause-part
returns-in-0-2-clause-part c = search rules
