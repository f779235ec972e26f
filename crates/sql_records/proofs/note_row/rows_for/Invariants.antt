use Rattle.std.proofs.Common.{take}
use Rattle.record_rows.specs.Known.{known_in}
use Rattle.noting_store.specs.Noted.{noted_in}
use Rattle.sql_records.specs.Noting.{AreNoteRows}
use Rattle.sql_records.proofs.note_row.rows_for.Given as goal

abbrev pub invariant-loop-note : goal.invariant-loop-note
invariant-loop-note l = AreNoteRows (known_in l.rows.items) (noted_in (take l.note-index l.notes))
