use Rattle.std.proofs.Common.{◌≡◌, position, eqb, take, Some, add-one, refl, ap, sym, ◌∙◌}
use Rattle.std.proofs.lemmas.List.{take_min, take_rest}
use Rattle.octet_fields.specs.Reading.{content_at, text_at}
use Rattle.octet_fields.proofs.Fields.{IsText-before}
use Rattle.octet_fields.proofs.reading.text_at.Goals as goal

pub returns-in-Some-clause-text : goal.returns-in-Some-clause-text
returns-in-Some-clause-text c =
    IsText-before c.args.limit c.args.octets.now c.in-Some.place
    (ap (position (λ octet. eqb octet 0)) (sym (take_min c.args.limit c.args.octets.now)) ∙ rw (← c.min.ensures) (sym c.in-Some.ensures))

pub returns-in-Some-clause-read : goal.returns-in-Some-clause-read
unfolding content_at text_at
returns-in-Some-clause-read c =
    let near : position (λ octet. eqb octet 0) (take c.args.limit c.args.octets.now) ≡ Some c.in-Some.place =
    ap (position (λ octet. eqb octet 0)) (sym (take_min c.args.limit c.args.octets.now)) ∙ rw (← c.min.ensures) (sym c.in-Some.ensures) in
    rw (near, take_rest, add-one) refl
