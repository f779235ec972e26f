use Rattle.std.proofs.Common.{◌≡◌, take}
use Rattle.noting_store.proofs.list.copies_of.Given as goal

abbrev pub invariant-loop-note : goal.invariant-loop-note
invariant-loop-note l = l.copies.items ≡ take l.note-index l.notes
