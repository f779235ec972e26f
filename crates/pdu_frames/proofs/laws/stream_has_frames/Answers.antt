use Rattle.pdu_frames.proofs.Streams.{stream_frames}
use Rattle.pdu_frames.proofs.laws.stream_has_frames.Goals as goal

pub returns : goal.returns
returns c = stream_frames
