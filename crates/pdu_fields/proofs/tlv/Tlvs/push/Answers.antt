use Rattle.std.proofs.Common.{ℕ, List, ◌++◌, ◌∷◌, [], ap, ◌∙◌, arith}
use Rattle.std.proofs.lemmas.Result.{on_ok_weaker}
use Rattle.pdu_fields.specs.Tlv.{tlvs_in}
use Rattle.pdu_fields.proofs.Optional.{tlvs-more, tlvs-after}
use Rattle.pdu_fields.proofs.tlv.Tlvs.push.Goals as goal

pub returns-clause-ok : goal.returns-clause-ok
returns-clause-ok c =
    let tlv : ℕ × List ℕ = (c.args.tag, c.args.value.now) in
    let view = c.self.view_is in
    let more = tlvs-more c.self.inside.octets.items tlv c.self.invariant (omega arith) (rw c.self.view_is c.requires) in
    on_ok_weaker c.put_tlv.result (λ e. ap tlvs_in e ∙ more.tlvs ∙ ap (λ (tlvs : List (ℕ × List ℕ)). tlvs ++ tlv ∷ []) view) c.put_tlv.ensures.ok

pub invariant_of-self : goal.invariant_of-self
invariant_of-self c =
    let tlv : ℕ × List ℕ = (c.args.tag, c.args.value.now) in
    let more = tlvs-more c.self.inside.octets.items tlv c.self.invariant (omega arith) (rw c.self.view_is c.requires) in
    tlvs-after c.put_tlv.result c.self.inside.octets.items c.put_tlv.new.out.items tlv more c.self.invariant c.put_tlv.ensures.ok c.put_tlv.ensures.err
