use Rattle.std.proofs.Common.{List, ℕ, ap, arith, is_ok, subst, true, ◌∙◌, ◌≡◌}
use Rattle.pdu_fields.proofs.Optional.{tlvs-given}
use Rattle.pdu_codec.specs.Text.{optional_octets}
use Rattle.pdu_codec.specs.Tlv.{first_of, tlvs_in}
use Rattle.fate_chain.specs.Content.{has_room}
use Rattle.fate_chain.proofs.content.Content.read.Goals as goal

pub of-requires-2 : goal.of-requires-2
unfolding tlvs_in
of-requires-2 c =
    let octets = c.args.others.now in
    let read = c.in_ok-passed.ensures in
    let spelled = (tlvs-given octets (λ i. omega (arith, c.type_inv.others i)) (ap is_ok read)).spelled in
    let whole : octets ≡ optional_octets c.in_ok-passed.passed = spelled ∙ ap (λ r. optional_octets (first_of r)) read in
    rw (c.in_ok-text.ensures.items) (record {
      most = c.requires.most;
      beside = subst (λ (o : List ℕ). has_room c.args.text.now o ≡ true) whole c.requires.beside;
    })
