use Rattle.std.proofs.Common.{sym, subst, ◌∙◌, ap}
use Rattle.std.specs.List.{filter}
use Rattle.pdu_fields.specs.Text.{has_tag_among, optional_octets}
use Rattle.pdu_fields.specs.Tlv.{AreTlvs, tlvs_in}
use Rattle.pdu_fields.proofs.Optional.{are_tlvs, tlvs_in-octets, AreOptional-filter}
use Rattle.pdu_fields.proofs.tlv.Tlvs.with_tags.Goals as goal

pub returns : goal.returns
returns c =
    let test = has_tag_among c.args.tags.now in
    let tlvs = tlvs_in c.self.inside.octets.items in
    let octets = c.in_ok-octets.ensures ∙ ap (λ items. optional_octets (filter test (tlvs_in items))) c.deref.ensures.value in
    rw (← c.self.view_is) (ap tlvs_in octets ∙ tlvs_in-octets (filter test tlvs) (AreOptional-filter test tlvs c.self.invariant.limits))

pub invariant_of-result : goal.invariant_of-result
invariant_of-result c =
    let test = has_tag_among c.args.tags.now in
    let tlvs = tlvs_in c.self.inside.octets.items in
    let octets = c.in_ok-octets.ensures ∙ ap (λ items. optional_octets (filter test (tlvs_in items))) c.deref.ensures.value in
    subst AreTlvs (sym octets) (are_tlvs (filter test tlvs) (AreOptional-filter test tlvs c.self.invariant.limits))
