use Rattle.std.proofs.Common.{refl}
use Rattle.sqlite.specs.Held.{state}
use Rattle.record_rows.specs.Known.{HasKnown}
use Rattle.noting_store.specs.Noted.{noted_in}
use Rattle.sql_records.proofs.NoteRows.{has_notes, if_noted}
use Rattle.sql_records.proofs.notes.load_notes.Goals as goal

pub returns-clause-found : goal.returns-clause-found
returns-clause-found g c clean =
    let old = state g.S.Store c.args.conn.now in
    let has : HasKnown old.now.schema.tables = c.if-not-has_known.ensures.0 refl in
    if_noted c.notes_in.result (λ notes each. has_notes old c.in_ok-rows.rows.items (noted_in notes.items) has (c.in_ok-rows.ensures.read clean) each)
    (rw c.deref.ensures.value at c.notes_in.ensures.ok)
