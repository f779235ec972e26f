use Rattle.std.proofs.Common.{◌≡◌, length}
use Rattle.pdu_fields.specs.Tlv.{AreTlvs, tlvs_in, value_of}
use Rattle.pdu_fields.proofs.tlv.value_at.Given as goal

abbrev pub invariant-loop-first : goal.invariant-loop-first
invariant-loop-first l = record {
  are : AreTlvs l.rest;
  same : value_of l.tag (tlvs_in l.rest) ≡ value_of l.tag (tlvs_in l.octets);
}

abbrev pub decreases-loop-first : goal.decreases-loop-first
decreases-loop-first l = length l.rest
