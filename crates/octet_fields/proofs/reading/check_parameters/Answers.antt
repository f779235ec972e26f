use Rattle.std.proofs.Common.{rules, ℕ, List, length, ◌∙◌, refl, sym, arith}
use Rattle.std.proofs.lemmas.Bool.{lt-ltb}
use Rattle.octet_fields.specs.Reading.{content_at, parameters_at}
use Rattle.octet_fields.proofs.Parameters.{tlv-length, is_some-next, parameters-cut, parameters-whole}
use Rattle.octet_fields.proofs.reading.check_parameters.Goals as goal

pub loop-after-smaller : goal.loop-after-smaller
loop-after-smaller c =
    let x : (ℕ × List ℕ) × List ℕ = ((c.in-Some.field-0-0, c.in-Some.field-0-1.now), c.in-Some.after.now) in
    omega (arith, tlv-length c.loop-after.rest.now x c.in-Some.ensures)

pub loop-after-preserved : goal.loop-after-preserved
loop-after-preserved c =
    let x : (ℕ × List ℕ) × List ℕ = ((c.in-Some.field-0-0, c.in-Some.field-0-1.now), c.in-Some.after.now) in
    is_some-next c.loop-after.rest.now x c.in-Some.ensures ∙ c.loop-after.invariant

pub returns-then-not-is_empty : goal.returns-then-not-is_empty
unfolding content_at
returns-then-not-is_empty c =
    parameters-cut c.args.most c.args.octets.now c.loop-after.rest.now (search rules) c.in_default.ensures c.loop-after.invariant
    (sym c.if-not-is_empty.ensures)

pub returns : goal.returns
unfolding content_at
returns c =
    parameters-whole c.args.most c.args.octets.now c.loop-after.rest.now (search rules) c.loop-after.invariant (sym c.if-not-is_empty.ensures)

pub returns-then-octets-most : goal.returns-then-octets-most
unfolding content_at parameters_at
returns-then-octets-most c = rw (lt-ltb c.args.most (length c.args.octets.now) c.if-octets-most.true) refl
