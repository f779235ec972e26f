use Rattle.std.proofs.Common.{◌≡◌, ◌++◌, length}
use Rattle.std.specs.List.{filter}
use Rattle.pdu_fields.specs.Text.{optional_octets, has_tag_among}
use Rattle.pdu_fields.specs.Tlv.{AreTlvs, tlvs_in}
use Rattle.pdu_fields.proofs.tlv.with_tags.Given as goal

abbrev pub invariant-loop-tag : goal.invariant-loop-tag
invariant-loop-tag l = record {
  are : AreTlvs l.rest;
  kept : l.kept.items ++ optional_octets (filter (has_tag_among l.tags) (tlvs_in l.rest)) ≡ optional_octets (filter (has_tag_among l.tags) (tlvs_in l.octets));
}

abbrev pub decreases-loop-tag : goal.decreases-loop-tag
decreases-loop-tag l = length l.rest
