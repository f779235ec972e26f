use Rattle.pdu_codec.proofs.BodyFaults.{read_pdu-no_memory}
use Rattle.pdu_codec.proofs.laws.no_octets_want_memory.Goals as goal

pub returns : goal.returns
returns c = read_pdu-no_memory
