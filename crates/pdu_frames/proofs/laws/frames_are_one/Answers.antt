use Rattle.pdu_frames.proofs.Streams.{frames_one}
use Rattle.pdu_frames.proofs.laws.frames_are_one.Goals as goal

pub returns : goal.returns
returns c = frames_one
