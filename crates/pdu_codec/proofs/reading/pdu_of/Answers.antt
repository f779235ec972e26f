use Rattle.std.proofs.Common.{Some, None, rules, ◌-◌, length, take, drop, sym, ap, refl, ◌∙◌}
use Rattle.std.proofs.lemmas.Result.{err_from_is_err_and}
use Rattle.pdu_tables.specs.CommandCodes.{command_of}
use Rattle.pdu_bodies.specs.Bodies.{body_at}
use Rattle.pdu_codec.specs.Pdu.{read_pdu}
use Rattle.pdu_bodies.proofs.Making.{Fails-then}
use Rattle.pdu_codec.proofs.PduLaws.{with_body, read_pdu-whole, Gives-from_made, IsOk-from_made}
use Rattle.pdu_codec.proofs.BodyFaults.{read_pdu-no_memory}
use Rattle.pdu_codec.proofs.reading.pdu_of.Goals as goal

pub returns-in_err-body-clause-exact : goal.returns-in_err-body-clause-exact
returns-in_err-body-clause-exact c =
    let p = err_from_is_err_and c.from_residual.result c.from_residual.ensures.1 in
    let fault = c.in_err-body.field-0.0 in
    let octets = c.args.octets.now in
    let rest = take (length octets - 16) (drop 16 octets) in
    let whole = read_pdu-whole octets rest (Some c.in-Some-of_code.command) (c.in-Some.ensures.whole.0 refl) (search rules) (search rules)
    (sym c.in-Some-of_code.is ∙ c.of_code.ensures.table ∙ ap command_of c.in-Some.ensures.command) refl in
    rw (p.1, p.2, whole) (Gives-from_made _ fault (Fails-then (body_at (Some c.in-Some-of_code.command) rest) (with_body octets) fault c.in_err-body.ensures))

pub returns-in_err-body-clause-memory : goal.returns-in_err-body-clause-memory
returns-in_err-body-clause-memory c =
    let p = err_from_is_err_and c.from_residual.result c.from_residual.ensures.1 in
    let fault = c.in_err-body.field-0.0 in
    let octets = c.args.octets.now in
    let rest = take (length octets - 16) (drop 16 octets) in
    let whole = read_pdu-whole octets rest (Some c.in-Some-of_code.command) (c.in-Some.ensures.whole.0 refl) (search rules) (search rules)
    (sym c.in-Some-of_code.is ∙ c.of_code.ensures.table ∙ ap command_of c.in-Some.ensures.command) refl in
    let made = Fails-then (body_at (Some c.in-Some-of_code.command) rest) (with_body octets) fault c.in_err-body.ensures in
    IsOk-from_made (read_pdu octets) c.from_residual.result fault p.0 (rw whole made) (read_pdu-no_memory octets) p.1 p.2

pub returns-clause-exact : goal.returns-clause-exact
returns-clause-exact c =
    let octets = c.args.octets.now in
    let rest = take (length octets - 16) (drop 16 octets) in
    let whole = read_pdu-whole octets rest (Some c.in-Some-of_code.command) (c.in-Some.ensures.whole.0 refl) (search rules) (search rules)
    (sym c.in-Some-of_code.is ∙ c.of_code.ensures.table ∙ ap command_of c.in-Some.ensures.command) refl in
    rw (whole, c.in_ok-body.ensures, c.in-Some.ensures.status, c.in-Some.ensures.sequence) refl

pub returns-in_default-of_code-clause-exact : goal.returns-in_default-of_code-clause-exact
unfolding body_at
returns-in_default-of_code-clause-exact c =
    let octets = c.args.octets.now in
    let rest = take (length octets - 16) (drop 16 octets) in
    read_pdu-whole octets rest None (c.in-Some.ensures.whole.0 refl) (search rules) (search rules)
    (sym c.in_default-of_code.is ∙ c.of_code.ensures.table ∙ ap command_of c.in-Some.ensures.command) refl
