use Rattle.std.proofs.Common.{◌≡◌, List, length, get_or, true, refl, sym, ap, subst, ◌∙◌, arith}
use Rattle.std.specs.Prelude.{nat_lt}
use Rattle.std.proofs.lemmas.Option.{slice_get_read}
use Rattle.std.proofs.lemmas.Bool.Decides.{nat_tests}
use Rattle.journal_laws.specs.Journals.{Entry}
use Rattle.journal_laws.specs.Likeness.{AreAlike}
use Rattle.journal_parts.specs.declared.noted.Noted.{Noted}
use Rattle.journal_parts.specs.Closing.{StandsAt}
use Rattle.journal_parts.specs.Entries.{entry_of}
use Rattle.journal_parts.specs.Registers.{Registered}
use Rattle.journal_parts.proofs.Closing.{stands_at}
use Rattle.journal_parts.proofs.register.Register.has_slip.Goals as goal

pub returns-then-noted-packets_before : goal.returns-then-noted-packets_before
returns-then-noted-packets_before g c = λ same.
    let all = c.self.inside.noted.items in
    let found = c.in-Some-get.ensures.lookup in
    let within : true ≡ nat_lt c.in-Some.place (length all) =
    found.0 ∙ ap (λ (ns : List Noted). nat_lt c.in-Some.place (length ns)) c.deref.ensures.value in
    let read : c.in-Some-get.noted.now ≡ get_or all c.in-Some.place c.in-Some-get.noted.now =
    subst (λ (ns : List Noted). c.in-Some-get.noted.now ≡ get_or ns c.in-Some.place c.in-Some-get.noted.now) c.deref.ensures.value found.1 in
    let one = c.in-Some.ensures in
    let numbered = c.number.ensures in
    subst (λ (r : Registered). StandsAt g.L.Begins.numbers.count r.entries c.args.slip.now) c.self.view_is
    (stands_at all g.L.Begins.numbers.count c.self.inside.sent c.in-Some.place c.in-Some-get.noted.now c.args.slip.now c.self.invariant.0.numbered
    c.self.invariant.0.sound (slice_get_read all (length all) c.in-Some.place c.in-Some-get.noted.now refl (grind (arith, nat_tests, within)) read)
    (omega (arith, one, numbered)) (sym (c.if-noted-packets_before.true ∙ c.packets_before.ensures))
    (subst (λ (e : Entry). AreAlike (entry_of c.in-Some-get.noted.now.entry) e) c.entry.ensures (c.is.ensures same)))
