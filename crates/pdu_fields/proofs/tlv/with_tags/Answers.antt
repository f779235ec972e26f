use Rattle.std.proofs.Common.{ℕ, List, ◌++◌, sym, ap, ◌∙◌, arith}
use Rattle.std.specs.List.{filter}
use Rattle.std.proofs.lemmas.List.{append-nil}
use Rattle.octet_fields.proofs.Parameters.{tlv-length}
use Rattle.pdu_fields.specs.Text.{optional_octets, has_tag_among}
use Rattle.pdu_fields.proofs.Optional.{octets-few, tlvs-next, tlvs-end, kept-more, kept-same}
use Rattle.pdu_fields.proofs.tlv.with_tags.Goals as goal

pub put_tlv-requires : goal.put_tlv-requires
put_tlv-requires c =
    let x : (ℕ × List ℕ) × List ℕ = ((c.in-Some.tag, c.in-Some.value.now), c.in-Some.after.now) in
    omega (arith, tlv-length c.loop-tag.rest.now x c.in-Some.ensures, octets-few c.loop-tag.rest.now c.loop-tag.invariant.are)

pub loop-tag-smaller-in_ok-put_tlv : goal.loop-tag-smaller-in_ok-put_tlv
loop-tag-smaller-in_ok-put_tlv c =
    let x : (ℕ × List ℕ) × List ℕ = ((c.in-Some.tag, c.in-Some.value.now), c.in-Some.after.now) in
    omega (arith, tlv-length c.loop-tag.rest.now x c.in-Some.ensures)

pub loop-tag-smaller : goal.loop-tag-smaller
loop-tag-smaller c =
    let x : (ℕ × List ℕ) × List ℕ = ((c.in-Some.tag, c.in-Some.value.now), c.in-Some.after.now) in
    omega (arith, tlv-length c.loop-tag.rest.now x c.in-Some.ensures)

pub loop-tag-preserved-in_ok-put_tlv : goal.loop-tag-preserved-in_ok-put_tlv
loop-tag-preserved-in_ok-put_tlv c =
    let x : (ℕ × List ℕ) × List ℕ = ((c.in-Some.tag, c.in-Some.value.now), c.in-Some.after.now) in
    let next = tlvs-next c.loop-tag.rest.now x c.loop-tag.invariant.are c.in-Some.ensures in
    record {
      are = next.behind;
      kept = rw c.in_ok-put_tlv.ensures.ok (kept-more (has_tag_among c.args.tags.now) c.loop-tag.kept.items c.loop-tag.rest.now _ x next
          (sym c.contains.ensures.value ∙ c.if-contains.true) c.loop-tag.invariant.kept);
    }

pub loop-tag-preserved : goal.loop-tag-preserved
loop-tag-preserved c =
    let x : (ℕ × List ℕ) × List ℕ = ((c.in-Some.tag, c.in-Some.value.now), c.in-Some.after.now) in
    let next = tlvs-next c.loop-tag.rest.now x c.loop-tag.invariant.are c.in-Some.ensures in
    record {
      are = next.behind;
      kept = kept-same (has_tag_among c.args.tags.now) c.loop-tag.kept.items c.loop-tag.rest.now _ x next
          (sym c.contains.ensures.value ∙ c.if-contains.false) c.loop-tag.invariant.kept;
    }

pub returns : goal.returns
returns c =
    sym (append-nil c.loop-tag.kept.items)
    ∙ ap (λ (tlvs : List (ℕ × List ℕ)). c.loop-tag.kept.items ++ optional_octets (filter (has_tag_among c.args.tags.now) tlvs))
    (sym (tlvs-end c.loop-tag.rest.now c.loop-tag.invariant.are c.in_default.ensures))
    ∙ c.loop-tag.invariant.kept
