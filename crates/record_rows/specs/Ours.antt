-- A connection with the two tables, with others beside them or without, and what a call leaves of it (own).
use Rattle.std.specs.Prelude.{◌≡◌, ℤ, false, List, Option, Some, IsTrue}
use Rattle.sqlite.specs.Change.{KeepsRows}
use Rattle.sqlite.specs.Tree.{Trees}
use Rattle.sqlite.specs.Effect.{IsDatabase}
use Rattle.sqlite.specs.State.{State}
use Rattle.record_rows.specs.declared.row.SlotRow.{SlotRow}
use Rattle.record_rows.specs.Beside.{IsSchemaOf, beside_in}
use Rattle.record_rows.specs.Tables.{Layout, life_tree, slots_tree}
use Rattle.record_rows.specs.Content.{Slots, Entry, with_row, AreSlots, AreLife, slots_of}

-- no transaction is open, so what is seen was committed
pub record IsSettled (s : State) : Type 0 where
  pub autocommit : s.in_transaction ≡ false
  pub committed : IsTrue s.is_open → s.now ≡ s.committed

-- the connection is open, and its database is the two tables, and such as may stand beside them
pub record IsOurs (layout : Layout) (s : State) : Type 0 where
  pub is_open : IsTrue s.is_open
  pub schema : IsSchemaOf layout s.now.schema
  pub autocommit : s.in_transaction ≡ false
  pub committed : s.now ≡ s.committed

-- it holds these slots, and this last incarnation
abbrev pub HoldsSlots : State → Slots → Type 0
HoldsSlots s slots = (layout : Layout) × IsOurs layout s × AreSlots (s.now.trees (slots_tree layout)) slots

abbrev pub HoldsLife : State → Option ℤ → Type 0
HoldsLife s last = (layout : Layout) × IsOurs layout s × AreLife (s.now.trees (life_tree layout)) last

-- the connection is open, and its database is as it was
pub record Stands (old new : State) : Type 0 where
  pub was_open : IsTrue old.is_open
  pub is_open : IsTrue new.is_open
  pub now : new.now ≡ old.now
  pub committed : new.committed ≡ old.committed
  pub autocommit : new.in_transaction ≡ false

-- these trees hold what was there with the row put in, and the tables beside keep their rows
pub record PutsRow (row : SlotRow) (old : State) (db : Trees) : Type 0 where
  pub slots : (layout : Layout) (slots : Slots) → IsOurs layout old → AreSlots (old.now.trees (slots_tree layout)) slots
      → AreSlots (db (slots_tree layout)) (with_row row slots)
  pub life : (layout : Layout) → IsOurs layout old → db (life_tree layout) ≡ old.now.trees (life_tree layout)
  pub beside : (layout : Layout) → IsOurs layout old → KeepsRows (beside_in old.now.schema) old.now.trees db
  pub sound : (layout : Layout) → IsOurs layout old → IsDatabase (record { schema = old.now.schema; trees = db })

pub record HasPut (row : SlotRow) (old new : State) : Type 0 where
  pub puts : PutsRow row old new.now.trees
  pub schema : (layout : Layout) → IsOurs layout old → new.now.schema ≡ old.now.schema
  pub ours : (layout : Layout) → IsOurs layout old → IsOurs layout new

-- these trees hold this last incarnation in place of the one that was there, and the slots and the tables beside as they were
pub record PutsLife (last : Option ℤ) (next : ℤ) (old : State) (db : Trees) : Type 0 where
  pub life : (layout : Layout) → IsOurs layout old → AreLife (old.now.trees (life_tree layout)) last → AreLife (db (life_tree layout)) (Some next)
  pub slots : (layout : Layout) → IsOurs layout old → db (slots_tree layout) ≡ old.now.trees (slots_tree layout)
  pub beside : (layout : Layout) → IsOurs layout old → KeepsRows (beside_in old.now.schema) old.now.trees db
  pub sound : (layout : Layout) → IsOurs layout old → IsDatabase (record { schema = old.now.schema; trees = db })

pub record HasPutLife (last : Option ℤ) (next : ℤ) (old new : State) : Type 0 where
  pub puts : PutsLife last next old new.now.trees
  pub schema : (layout : Layout) → IsOurs layout old → new.now.schema ≡ old.now.schema
  pub ours : (layout : Layout) → IsOurs layout old → IsOurs layout new

-- the rows that were read are those that the connection holds
abbrev pub HasRead : List Entry → State → Type 0
HasRead entries s = (layout : Layout) → IsOurs layout s → AreSlots (s.now.trees (slots_tree layout)) (slots_of entries)

abbrev pub HasReadLife : Option ℤ → State → Type 0
HasReadLife last s = (layout : Layout) → IsOurs layout s → AreLife (s.now.trees (life_tree layout)) last

-- it holds no slots, whatever they were
abbrev pub HoldsNoSlots : State → Type 0
HoldsNoSlots s = (layout : Layout) → IsOurs layout s → (slots : Slots) → AreSlots (s.now.trees (slots_tree layout)) slots → ⊥

-- it holds no incarnation, and not none either
abbrev pub HoldsNoLife : State → Type 0
HoldsNoLife s = (layout : Layout) → IsOurs layout s → (last : Option ℤ) → AreLife (s.now.trees (life_tree layout)) last → ⊥

-- a connection that has not the two tables, of which a read says nothing
abbrev pub IsStrange : State → Trees → Type 0
IsStrange s db = (layout : Layout) → IsOurs layout s → ⊥
