use Rattle.std.proofs.Common.{◌≡◌, List, length, map, get_or, Some, true, refl, sym, ap, subst, ◌∙◌, arith}
use Rattle.std.specs.Prelude.{nat_lt, option_map, slice_get}
use Rattle.std.proofs.lemmas.Option.{slice_get-map, slice_get_read}
use Rattle.std.proofs.lemmas.Bool.Decides.{nat_tests}
use Rattle.journal_parts.specs.declared.noted.Noted.{Noted}
use Rattle.journal_parts.specs.Closing.{Closed, entries_in, entry_at}
use Rattle.journal_parts.specs.Entries.{entry_of}
use Rattle.journal_parts.proofs.Closing.{entry_place}
use Rattle.journal_parts.proofs.journal.Journal.entry.Goals as goal

pub returns : goal.returns
returns g c =
    let all = c.self.inside.noted.items in
    let place = c.in_ok-checked_sub.field-0 in
    let found = c.in_ok-noted.ensures.lookup in
    let within : true ≡ nat_lt place (length all) = found.0 ∙ ap (λ (ns : List Noted). nat_lt place (length ns)) c.deref.ensures.value in
    let read : c.in_ok-noted.noted.now ≡ get_or all place c.in_ok-noted.noted.now =
    subst (λ (ns : List Noted). c.in_ok-noted.noted.now ≡ get_or ns place c.in_ok-noted.noted.now) c.deref.ensures.value found.1 in
    let at : slice_get all place ≡ Some c.in_ok-noted.noted.now =
    slice_get_read all (length all) place c.in_ok-noted.noted.now refl (grind (arith, nat_tests, within)) read in
    let one = c.in_ok-checked_sub.ensures in
    subst (λ (j : Closed _). Some (entry_of c.in_ok-noted.noted.now.entry) ≡ entry_at (entries_in j) c.args.number) c.self.view_is
    (sym (entry_place (map (λ (n : Noted). entry_of n.entry) all) c.args.number place one.0 one.1
    ∙ slice_get-map (λ (n : Noted). entry_of n.entry) all place ∙ ap (option_map (λ (n : Noted). entry_of n.entry)) at))
