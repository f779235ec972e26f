use Rattle.sql_records.proofs.NoteRows.{rows_more}
use Rattle.sql_records.proofs.note_row.rows_for.Goals as goal

pub loop-note-preserved : goal.loop-note-preserved
loop-note-preserved c =
    rw c.in_ok-push.ensures.items
    (rows_more c.args.notes.now c.loop-note.note-index c.note-item.result c.loop-note.rows.items c.in_ok-next.next c.loop-note-test.true c.note-item.is
    c.loop-note.invariant c.in_ok-next.ensures)
