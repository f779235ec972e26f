use Rattle.std.proofs.Common.{append_assoc}
use Rattle.std.proofs.lemmas.List.{append-nil}
use Rattle.pdu_codec.proofs.writing.put_bind_answer.Goals as goal

pub returns-clause-ok : goal.returns-clause-ok
returns-clause-ok c = simp (append_assoc, append-nil) (simp (c.octets.ensures.octets, c.octets-2.ensures.octets, append-nil) at c.put_framed.ensures.ok)
