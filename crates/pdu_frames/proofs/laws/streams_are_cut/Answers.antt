use Rattle.pdu_frames.proofs.Streams.{streams_cut}
use Rattle.pdu_frames.proofs.laws.streams_are_cut.Goals as goal

pub returns : goal.returns
returns c = streams_cut
