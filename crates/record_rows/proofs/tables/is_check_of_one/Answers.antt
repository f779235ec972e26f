use Rattle.std.proofs.Common.{◌≡◌, sym, ap, ◌∙◌}
use Rattle.sqlite_sql.specs.Syntax.{terms_of}
use Rattle.record_rows.proofs.tables.is_check_of_one.Goals as goal

pub returns : goal.returns
returns c =
    let same : terms_of c.as_slice.result.now c.in_ok-lent.lent.roots.now ≡ c.args.terms.now =
    ap (λ nodes. terms_of nodes c.in_ok-lent.lent.roots.now) c.as_slice.ensures.value ∙ c.in_ok-lent.ensures in
    (λ yes. sym same ∙ c.are_tests_of_one.ensures.0 yes, λ is. c.are_tests_of_one.ensures.1 (same ∙ is))
