-- What making the tables leaves (own).
use Rattle.std.specs.Prelude.{◌≡◌, false, []}
use Rattle.sqlite.specs.Tree.{Trees}
use Rattle.sqlite.specs.Effect.{IsDatabase}
use Rattle.sqlite.specs.State.{State}
use Rattle.record_rows.specs.Tables.{schema_in, schema_of, neither, life_alone, slots_alone, life_first, slots_first, life_tree, slots_tree}
use Rattle.record_rows.specs.Ours.{IsOurs}

-- these trees hold no slots, and the incarnation as it was
pub record SlotsAdded (old : State) (db : Trees) : Type 0 where
  pub empty : db (slots_tree life_first) ≡ []
  pub life : db (life_tree life_first) ≡ old.now.trees (life_tree life_first)
  pub sound : IsDatabase (record { schema = schema_of life_first []; trees = db })

abbrev pub AddsSlots : State → Trees → Type 0
AddsSlots old db = old.now.schema ≡ schema_in life_alone → SlotsAdded old db

pub record AreSlotsAdded (old new : State) : Type 0 where
  pub adds : SlotsAdded old new.now.trees
  pub ours : IsOurs life_first new

abbrev pub HasAddedSlots : State → State → Type 0
HasAddedSlots old new = old.now.schema ≡ schema_in life_alone → old.in_transaction ≡ false → AreSlotsAdded old new

-- the same of `life` beside `slots`: these trees hold no incarnation, and the slots as they were
pub record LifeAdded (old : State) (db : Trees) : Type 0 where
  pub empty : db (life_tree slots_first) ≡ []
  pub slots : db (slots_tree slots_first) ≡ old.now.trees (slots_tree slots_first)
  pub sound : IsDatabase (record { schema = schema_of slots_first []; trees = db })

abbrev pub AddsLife : State → Trees → Type 0
AddsLife old db = old.now.schema ≡ schema_in slots_alone → LifeAdded old db

pub record IsLifeAdded (old new : State) : Type 0 where
  pub adds : LifeAdded old new.now.trees
  pub ours : IsOurs slots_first new

abbrev pub HasAddedLife : State → State → Type 0
HasAddedLife old new = old.now.schema ≡ schema_in slots_alone → old.in_transaction ≡ false → IsLifeAdded old new

-- the same of both in an empty database: these trees hold no slots and no incarnation
pub record BothAdded (db : Trees) : Type 0 where
  pub slots : db (slots_tree life_first) ≡ []
  pub life : db (life_tree life_first) ≡ []
  pub sound : IsDatabase (record { schema = schema_of life_first []; trees = db })

abbrev pub AddsBoth : State → Trees → Type 0
AddsBoth old db = old.now.schema ≡ schema_in neither → BothAdded db

pub record AreBothAdded (new : State) : Type 0 where
  pub adds : BothAdded new.now.trees
  pub ours : IsOurs life_first new

abbrev pub HasAddedBoth : State → State → Type 0
HasAddedBoth old new = old.now.schema ≡ schema_in neither → old.in_transaction ≡ false → AreBothAdded new
