use Rattle.pdu_codec.proofs.PduSpelling.{read_pdu-again}
use Rattle.pdu_codec.proofs.laws.written_is_read.Goals as goal

pub returns : goal.returns
returns c = read_pdu-again
