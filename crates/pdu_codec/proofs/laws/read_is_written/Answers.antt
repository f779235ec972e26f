use Rattle.pdu_codec.proofs.PduSpelling.{read_pdu-takes}
use Rattle.pdu_codec.proofs.laws.read_is_written.Goals as goal

pub returns : goal.returns
returns c = λ octets pdu are read.
    let taken = read_pdu-takes octets pdu are read in
    (taken.spelled, taken.fits)
