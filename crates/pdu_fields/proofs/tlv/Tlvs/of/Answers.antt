use Rattle.std.proofs.Common.{sym, subst, arith}
use Rattle.pdu_fields.specs.Tlv.{AreTlvs}
use Rattle.pdu_fields.proofs.Optional.{tlvs-given, tlvs-read}
use Rattle.pdu_fields.proofs.tlv.Tlvs.of.Goals as goal

pub returns : goal.returns
returns c =
    rw c.in_ok-octets.ensures.items (tlvs-read c.args.octets.now (tlvs-given c.args.octets.now (λ i. omega (arith, c.type_inv.octets i)) c.requires))

pub invariant_of-result : goal.invariant_of-result
invariant_of-result c =
    subst AreTlvs (sym c.in_ok-octets.ensures.items) (tlvs-given c.args.octets.now (λ i. omega (arith, c.type_inv.octets i)) c.requires)
