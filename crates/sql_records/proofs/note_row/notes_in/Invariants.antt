use Rattle.std.proofs.Common.{take}
use Rattle.record_rows.specs.Known.{known_in}
use Rattle.noting_store.specs.Noted.{noted_in}
use Rattle.sql_records.specs.Noting.{AreNoteRows}
use Rattle.sql_records.proofs.NoteRows.{AreNext}
use Rattle.sql_records.proofs.note_row.notes_in.Given as goal

abbrev pub invariant-loop-row : goal.invariant-loop-row
invariant-loop-row l = record {
  stand : AreNoteRows (known_in (take l.row-index l.rows)) (noted_in l.notes.items);
  next : AreNext l.nodes l.notes.items l.last;
}
