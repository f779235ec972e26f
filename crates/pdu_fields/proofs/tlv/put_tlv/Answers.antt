use Rattle.std.proofs.Common.{refl}
use Rattle.std.proofs.lemmas.List.{append-nil}
use Rattle.pdu_fields.proofs.tlv.put_tlv.Goals as goal

pub returns-clause-ok : goal.returns-clause-ok
returns-clause-ok c = rw (c.put_pieces.ensures.octets, c.in_ok-reserve.ensures.items, append-nil, c.to_be_bytes.ensures, c.to_be_bytes-2.ensures) refl
