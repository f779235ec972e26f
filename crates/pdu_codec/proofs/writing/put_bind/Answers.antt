use Rattle.std.proofs.Common.{refl, append_assoc}
use Rattle.std.proofs.lemmas.List.{append-nil}
use Rattle.pdu_codec.proofs.writing.put_bind.Goals as goal

pub returns-clause-limits : goal.returns-clause-limits
returns-clause-limits c =
    let octets = c.put_framed.ensures.octets.1.1.1.1.1.0 in
    (c.octets.ensures.text, (c.octets-2.ensures.text, (c.octets-3.ensures.text, ((octets 1, refl), ((octets 2, refl), ((octets 3, refl), (c.octets-4.ensures.text, tt)))))))

pub returns-clause-ok : goal.returns-clause-ok
returns-clause-ok c =
    simp (append_assoc, append-nil) (simp (
      c.octets.ensures.octets,
      c.octets-2.ensures.octets,
      c.octets-3.ensures.octets,
      c.octets-4.ensures.octets,
      append-nil,
    ) at c.put_framed.ensures.ok)
