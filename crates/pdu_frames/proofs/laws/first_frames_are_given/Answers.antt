use Rattle.pdu_frames.proofs.Streams.{first_frames}
use Rattle.pdu_frames.proofs.laws.first_frames_are_given.Goals as goal

pub returns : goal.returns
returns c = first_frames
