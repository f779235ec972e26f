use Rattle.std.proofs.Common.{◌≡◌, ℕ, ◌+◌, ◌<◌, List, ◌++◌, length, take, drop, sym, ap, ◌∙◌, rules, arith, length-append}
use Rattle.std.proofs.lemmas.List.{take-append-drop}
use Rattle.pdu_fields.specs.Grammar.{front_at, octet_parts}
use Rattle.pdu_fields.proofs.Runs.{run_read, run_cut}
use Rattle.pdu_fields.proofs.fields.octets_at.Goals as goal

pub returns-in-Some : goal.returns-in-Some
returns-in-Some g c =
    let octets : List ℕ = c.args.octets.now in
    let found : List ℕ = c.in-Some.found.now in
    let rest : List ℕ = c.in-Some.rest.now in
    let fields : length c.args.fields ≡ g.row.N = search rules in
    let front : found ≡ take g.row.N octets = c.in-Some.ensures.cases.0 in
    let behind : rest ≡ drop g.row.N octets = c.in-Some.ensures.cases.1 in
    let count : length rest + g.row.N ≡ length octets = c.in-Some.ensures.cases.2 in
    let whole : octets ≡ found ++ rest = rw (front, behind) (sym (take-append-drop g.row.N octets)) in
    ap (front_at (octet_parts c.args.fields)) whole
    ∙ run_read c.args.fields found rest (omega (arith, fields, count, ap length whole, length-append found rest))

pub returns-in-None : goal.returns-in-None
returns-in-None g c =
    let fields : length c.args.fields ≡ g.row.N = search rules in
    let short : length c.args.octets.now < g.row.N = c.in-None.ensures.cases in
    run_cut c.args.fields c.args.octets.now _ (omega (arith, fields, short))
