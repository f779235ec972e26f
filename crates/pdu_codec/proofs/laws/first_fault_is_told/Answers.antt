use Rattle.pdu_codec.proofs.PduSpelling.{body_first_fault}
use Rattle.pdu_codec.proofs.laws.first_fault_is_told.Goals as goal

pub returns : goal.returns
returns c = body_first_fault
