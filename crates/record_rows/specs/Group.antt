-- Several rows of `slots` that are put in at once (own).
use Rattle.std.specs.Prelude.{◌≡◌, List, [], ◌∷◌, IsTrue}
use Rattle.sqlite.specs.Change.{KeepsRows}
use Rattle.sqlite.specs.Tree.{Trees}
use Rattle.sqlite.specs.Effect.{Database, IsDatabase}
use Rattle.sqlite.specs.State.{State}
use Rattle.record_rows.specs.declared.row.SlotRow.{SlotRow}
use Rattle.record_rows.specs.Beside.{IsSchemaOf, beside_in}
use Rattle.record_rows.specs.Tables.{Layout, life_tree, slots_tree}
use Rattle.record_rows.specs.Content.{Slots, AreSlots, with_row}
use Rattle.record_rows.specs.Ours.{IsOurs}

-- the same with the rows in place of what was at their keys, in their order: of several of a key the last counts
abbrev pub with_rows : List SlotRow → Slots → Slots
with_rows [] slots = slots
with_rows (row ∷ more) slots = with_rows more (with_row row slots)

-- these trees hold what was there with all of the rows put in, and the tables beside keep theirs
pub record PutsRows (rows : List SlotRow) (old : State) (db : Trees) : Type 0 where
  pub slots : (layout : Layout) (slots : Slots) → IsOurs layout old → AreSlots (old.now.trees (slots_tree layout)) slots
      → AreSlots (db (slots_tree layout)) (with_rows rows slots)
  pub life : (layout : Layout) → IsOurs layout old → db (life_tree layout) ≡ old.now.trees (life_tree layout)
  pub beside : (layout : Layout) → IsOurs layout old → KeepsRows (beside_in old.now.schema) old.now.trees db
  pub sound : (layout : Layout) → IsOurs layout old → IsDatabase old.now → IsDatabase (record { schema = old.now.schema; trees = db })

pub record HasPutRows (rows : List SlotRow) (old new : State) : Type 0 where
  pub puts : PutsRows rows old new.now.trees
  pub schema : (layout : Layout) → IsOurs layout old → new.now.schema ≡ old.now.schema
  pub ours : (layout : Layout) → IsOurs layout old → IsOurs layout new

-- ---- inside a transaction

-- one database is the other with all of the rows put in
pub record AreRowsIn (layout : Layout) (rows : List SlotRow) (old new : Database) : Type 0 where
  pub schema : new.schema ≡ old.schema
  pub slots : (slots : Slots) → AreSlots (old.trees (slots_tree layout)) slots → AreSlots (new.trees (slots_tree layout)) (with_rows rows slots)
  pub life : new.trees (life_tree layout) ≡ old.trees (life_tree layout)
  pub beside : KeepsRows (beside_in old.schema) old.trees new.trees
  pub sound : IsDatabase old → IsDatabase new

-- the transaction goes on, and sees the rows
pub record HasPutInside (rows : List SlotRow) (old new : State) : Type 0 where
  pub inside : IsTrue new.in_transaction
  pub each : (layout : Layout) → IsSchemaOf layout old.now.schema → AreRowsIn layout rows old.now new.now
