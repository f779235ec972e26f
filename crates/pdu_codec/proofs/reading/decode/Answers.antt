use Rattle.std.proofs.Common.{ap, subst, ◌∙◌, arith}
use Rattle.pdu_codec.specs.Pdu.{Gives, read_pdu}
use Rattle.pdu_codec.proofs.PduSpelling.{read_pdu-again, read-is_spelled, read-fits}
use Rattle.pdu_codec.proofs.reading.decode.Goals as goal

pub returns-clause-read : goal.returns-clause-read
returns-clause-read c = read-is_spelled c.args.octets.now c.pdu_of.result (λ i. omega (arith, c.type_inv.octets i)) c.pdu_of.ensures.exact

pub returns-clause-fits : goal.returns-clause-fits
returns-clause-fits c = read-fits c.args.octets.now c.pdu_of.result (λ i. omega (arith, c.type_inv.octets i)) c.pdu_of.ensures.exact

pub returns-clause-only : goal.returns-clause-only
returns-clause-only c = λ pdu fits e. subst (λ r. Gives c.pdu_of.result r) (ap read_pdu e ∙ read_pdu-again pdu fits) c.pdu_of.ensures.exact
