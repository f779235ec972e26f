use Rattle.std.proofs.Common.{◌≡◌, true, false, refl, sym, ◌∙◌}
use Rattle.std.proofs.lemmas.Bool.{eq-eqb, eqb-true}
use Rattle.noting_store.specs.Noted.{noted_of}
use Rattle.noting_store.proofs.Notes.{none_in_all, none_more, stands_at}
use Rattle.noting_store.proofs.list.has_note_of.Goals as goal

pub returns-then-eq : goal.returns-then-eq
returns-then-eq c =
    let same : c.note-item.result.vote.chain.id ≡ c.args.id = sym c.id.ensures ∙ eqb-true c.id.result c.args.id (sym c.if-eq.ensures) in
    let here = stands_at c.args.notes.now c.loop-note.note-index c.note-item.result c.loop-note-test.true c.note-item.is in
    (λ not. absurd (let e : true ≡ false = not in cc), λ none. absurd (none (noted_of c.note-item.result) here same))

pub loop-note-preserved : goal.loop-note-preserved
loop-note-preserved c =
    none_more c.args.id c.args.notes.now c.loop-note.note-index c.note-item.result c.loop-note-test.true c.note-item.is c.loop-note.invariant (λ same.
    let e : true ≡ false = sym (eq-eqb c.id.result c.args.id (c.id.ensures ∙ same)) ∙ sym c.if-eq.ensures in cc)

pub returns : goal.returns
returns c = (λ _. none_in_all c.args.id c.args.notes.now c.loop-note.note-index c.loop-note-test.false c.loop-note.invariant, λ _. refl)
