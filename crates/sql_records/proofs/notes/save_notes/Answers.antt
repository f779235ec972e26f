use Rattle.std.proofs.Common.{refl, sym, subst}
use Rattle.sqlite.specs.Held.{state}
use Rattle.record_rows.proofs.StateLemmas.{survives_as}
use Rattle.record_rows.specs.Known.{HasKnown, PutsKnown, known_in}
use Rattle.noting_store.specs.Noted.{noted_in}
use Rattle.sql_records.proofs.CallLemmas.{on_put}
use Rattle.sql_records.specs.Noting.{PutsNotes, AreNoteRows}
use Rattle.sql_records.proofs.NoteRows.{has_put_notes, puts_notes}
use Rattle.sql_records.proofs.notes.save_notes.Goals as goal

pub returns-in-Ok-clause-ok : goal.returns-in-Ok-clause-ok
returns-in-Ok-clause-ok g c clean =
    let old = state g.S.Store c.args.conn.now in
    let has : HasKnown old.now.schema.tables = c.if-not-has_known.ensures.0 refl in
    let each = subst (λ rows. AreNoteRows (known_in rows) (noted_in c.args.notes.now)) (sym c.deref.ensures.value) c.in-Ok.ensures in
    on_put c.put_known.result (has_put_notes old (state g.S.Store c.put_known.new.conn) c.deref.result.now (noted_in c.args.notes.now) each has)
    (c.put_known.ensures.ok clean)

pub returns-in-Ok-clause-survives : goal.returns-in-Ok-clause-survives
returns-in-Ok-clause-survives g c =
    let old = state g.S.Store c.args.conn.now in
    let has : HasKnown old.now.schema.tables = c.if-not-has_known.ensures.0 refl in
    let each = subst (λ rows. AreNoteRows (known_in rows) (noted_in c.args.notes.now)) (sym c.deref.ensures.value) c.in-Ok.ensures in
    survives_as old (state g.S.Store c.put_known.new.conn) (PutsKnown c.deref.result.now old) (PutsNotes (noted_in c.args.notes.now) old)
    (λ db. puts_notes old db c.deref.result.now (noted_in c.args.notes.now) each has) c.put_known.ensures.survives
