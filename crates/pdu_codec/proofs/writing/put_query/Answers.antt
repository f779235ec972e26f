use Rattle.std.proofs.Common.{refl, append_assoc}
use Rattle.std.proofs.lemmas.List.{append-nil}
use Rattle.pdu_codec.proofs.writing.put_query.Goals as goal

pub returns-clause-limits : goal.returns-clause-limits
returns-clause-limits c =
    let source = c.put_framed.ensures.octets.1.0 in
    (c.octets.ensures.text, ((source 1, refl), ((source 2, refl), (c.octets-2.ensures.text, tt))))

pub returns-clause-ok : goal.returns-clause-ok
returns-clause-ok c = simp (append_assoc, append-nil) (simp (c.octets.ensures.octets, c.octets-2.ensures.octets) at c.put_framed.ensures.ok)
