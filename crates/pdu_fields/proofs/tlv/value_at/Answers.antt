use Rattle.std.proofs.Common.{ℕ, List, Some, cond, sym, ap, ◌∙◌, arith}
use Rattle.std.proofs.lemmas.Bool.{eq-eqb, ne_eqb}
use Rattle.octet_fields.proofs.Parameters.{tlv-length}
use Rattle.pdu_fields.specs.Tlv.{tlvs_in, value_of}
use Rattle.pdu_fields.proofs.Optional.{tlvs-next, tlvs-end, value-next}
use Rattle.pdu_fields.proofs.tlv.value_at.Goals as goal

pub loop-first-smaller : goal.loop-first-smaller
loop-first-smaller c =
    let x : (ℕ × List ℕ) × List ℕ = ((c.in-Some.first, c.in-Some.value.now), c.in-Some.after.now) in
    omega (arith, tlv-length c.loop-first.rest.now x c.in-Some.ensures)

pub loop-first-preserved : goal.loop-first-preserved
loop-first-preserved c =
    let x : (ℕ × List ℕ) × List ℕ = ((c.in-Some.first, c.in-Some.value.now), c.in-Some.after.now) in
    let next = tlvs-next c.loop-first.rest.now x c.loop-first.invariant.are c.in-Some.ensures in
    let behind = ap (λ b. cond b (Some x.0.1) (value_of c.args.tag (tlvs_in x.1))) (ne_eqb x.0.0 c.args.tag c.if-first-tag.false) in
    record {
      are = next.behind;
      same = sym (value-next c.args.tag c.loop-first.rest.now x next ∙ behind) ∙ c.loop-first.invariant.same;
    }

pub returns-then-first-tag : goal.returns-then-first-tag
returns-then-first-tag c =
    let x : (ℕ × List ℕ) × List ℕ = ((c.in-Some.first, c.in-Some.value.now), c.in-Some.after.now) in
    let next = tlvs-next c.loop-first.rest.now x c.loop-first.invariant.are c.in-Some.ensures in
    let found = ap (λ b. cond b (Some x.0.1) (value_of c.args.tag (tlvs_in x.1))) (eq-eqb x.0.0 c.args.tag c.if-first-tag.true) in
    sym c.loop-first.invariant.same ∙ value-next c.args.tag c.loop-first.rest.now x next ∙ found

pub returns : goal.returns
returns c =
    sym c.loop-first.invariant.same ∙ ap (value_of c.args.tag) (tlvs-end c.loop-first.rest.now c.loop-first.invariant.are c.in_default.ensures)
