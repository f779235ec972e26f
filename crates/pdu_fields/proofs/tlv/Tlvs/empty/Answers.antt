use Rattle.std.proofs.Common.{[], sym, subst, ap, arith, ◌∙◌}
use Rattle.pdu_fields.specs.Tlv.{AreTlvs, tlvs_in}
use Rattle.pdu_fields.specs.Text.{AreOptional}
use Rattle.pdu_fields.proofs.Optional.{are_tlvs, tlvs_in-octets}
use Rattle.pdu_fields.proofs.tlv.Tlvs.empty.Goals as goal

none : AreOptional []
none = record { tags = tt; most = omega arith }

pub returns : goal.returns
returns c = ap tlvs_in c.new.ensures.items ∙ tlvs_in-octets [] none

pub invariant_of-result : goal.invariant_of-result
invariant_of-result c = subst AreTlvs (sym c.new.ensures.items) (are_tlvs [] none)
