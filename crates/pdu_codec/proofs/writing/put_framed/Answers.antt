use Rattle.std.proofs.Common.{refl, append_assoc, ℕ, length, ap, arith, length-append}
use Rattle.pdu_codec.specs.Pdu.{framed}
use Rattle.pdu_codec.proofs.writing.put_framed.Goals as goal

pub put_pieces-requires : goal.put_pieces-requires
put_pieces-requires c =
    omega (arith, ap length c.put_header.ensures.octets, length-append {A = ℕ}, c.in_ok-reserve.ensures.ok, c.in_ok-reserve.ensures.len)

pub returns-clause-ok : goal.returns-clause-ok
unfolding framed
returns-clause-ok c =
    simp (c.put_pieces.ensures.octets, c.put_header.ensures.octets, c.in_ok-reserve.ensures.items, c.length_of-count.ensures.count, append_assoc) refl
