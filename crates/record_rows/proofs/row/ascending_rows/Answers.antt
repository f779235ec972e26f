use Rattle.std.proofs.Common.{◌≡◌, IsTrue, true, false, map, sym, subst}
use Rattle.record_rows.specs.Content.{entry_of, AreAscending}
use Rattle.record_rows.proofs.ShownLemmas.{shown_once}
use Rattle.record_rows.proofs.row.ascending_rows.Goals as goal

pub returns-else-are_ascending-clause-damaged : goal.returns-else-are_ascending-clause-damaged
returns-else-are_ascending-clause-damaged c is entries all up =
    let same = shown_once c.args.shown.now entries (map entry_of c.in_ok-rows.rows.items) all c.in_ok-rows.ensures.ok in
    let no : IsTrue false = c.if-are_ascending.ensures.1 (subst (λ rs. AreAscending (map entry_of rs)) (sym c.as_slice.ensures.value)
    (subst AreAscending same up)) in
    let never : false ≡ true = no in
    cc
