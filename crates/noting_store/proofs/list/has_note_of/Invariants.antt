use Rattle.std.proofs.Common.{take}
use Rattle.noting_store.specs.Noted.{HasNone, noted_in}
use Rattle.noting_store.proofs.list.has_note_of.Given as goal

abbrev pub invariant-loop-note : goal.invariant-loop-note
invariant-loop-note l = HasNone l.id (noted_in (take l.note-index l.notes))
