use Rattle.std.proofs.Common.{refl}
use Rattle.std.proofs.lemmas.List.{append-nil}
use Rattle.pdu_codec.proofs.writing.put_header.Goals as goal

pub returns-clause-octets : goal.returns-clause-octets
returns-clause-octets c =
    simp (c.put_pieces.ensures.octets, c.to_be_bytes.ensures, c.to_be_bytes-2.ensures, c.to_be_bytes-3.ensures, c.to_be_bytes-4.ensures, append-nil) refl
