-- Which notes the rows of `known` stand for, and what a call leaves of them (own).
use Rattle.std.specs.Prelude.{◌≡◌, ◌⊎◌, ℕ, pos, List}
use Rattle.std.specs.List.{AllZip}
use Rattle.mc_model.specs.synod.Acceptor.{after_vote}
use Rattle.mc_model.specs.synod.Lists.{In}
use Rattle.sqlite.specs.State.{HasCleanDisk, State}
use Rattle.sqlite.specs.Tree.{Trees}
use Rattle.record_rows.specs.Content.{Entry}
use Rattle.record_rows.specs.Ours.{IsOurs}
use Rattle.record_rows.specs.Tables.{Layout, life_tree, slots_tree}
use Rattle.record_rows.specs.Known.{Holds, Known}
use Rattle.noting_store.specs.Noted.{Noted, nodes_in}
use Rattle.sql_records.specs.Standing.{IsRowOf}

-- the row of `slots` that would stand for the same vote, and for a promise at its ballot
abbrev pub entry_in : Known → Entry
entry_in k = (record { id = k.id; place = k.place }, record { promised = k.voted; voted = k.voted; chain = k.chain })

-- a row is that of a note: of its vote, and of the set of those who told of it
pub record IsNoteRow (k : Known) (n : Noted) : Type 0 where
  pub vote : IsRowOf n.slot (after_vote n.vote) (entry_in k)
  pub set : ℕ
  pub voters : k.voters ≡ pos set
  pub told : n.voters ≡ nodes_in set

-- each row is that of the note at its place
abbrev pub AreNoteRows : List Known → List Noted → Type 0
AreNoteRows = AllZip IsNoteRow

-- these trees hold its row
abbrev pub HasNote : Trees → Noted → Type 0
HasNote db n = (k : Known) × Holds db k × IsNoteRow k n

-- Each note that these trees hold was held before, or is one of these; and they hold the records and the last incarnation as they were.
pub record PutsNotes (notes : List Noted) (old : State) (db : Trees) : Type 0 where
  pub only : (layout : Layout) → IsOurs layout old → (n : Noted) → HasNote db n → HasNote old.now.trees n ⊎ In n notes
  pub slots : (layout : Layout) → IsOurs layout old → db (slots_tree layout) ≡ old.now.trees (slots_tree layout)
  pub life : (layout : Layout) → IsOurs layout old → db (life_tree layout) ≡ old.now.trees (life_tree layout)

pub record HasPutNotes (notes : List Noted) (old new : State) : Type 0 where
  pub puts : PutsNotes notes old new.now.trees
  pub ours : (layout : Layout) → IsOurs layout old → IsOurs layout new

-- not in doubt, and an opening after a crash at this moment may find this note
abbrev pub may_know_over : State → Noted → Type 0
may_know_over s n = HasCleanDisk s × (db : Trees) × s.may_leave db × HasNote db n
