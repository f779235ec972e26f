use Rattle.pdu_frames.proofs.Streams.{all_frames}
use Rattle.pdu_frames.proofs.laws.all_frames_are_given.Goals as goal

pub returns : goal.returns
returns c = all_frames
