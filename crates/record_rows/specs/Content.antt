-- What the two tables hold (own).
use Rattle.std.specs.Prelude.{◌≡◌, ◌&&◌, ◌||◌, ℕ, ℤ, pos, int_lt, Bool, true, List, [], ◌∷◌, map, filter, Option, Some, None, if◌then◌else◌}
use Rattle.std.specs.Ordering.{is_eq, int_eq}
use Rattle.std.specs.List.{AllByRecursion, AllZip}
use Rattle.sqlite.specs.declared.types.Value.TheVariants.{Int, Blob}
use Rattle.sqlite.specs.Order.{Row, column, value_cmp}
use Rattle.sqlite.specs.Tree.{rowid, IsAscending}
use Rattle.sqlite.specs.View.{is_int}
use Rattle.record_rows.specs.declared.row.SlotRow.{SlotRow}

-- a key of `slots`
pub record Slot : Type 0 where
  pub id : ℤ
  pub place : ℤ

-- the other columns of a row
pub record Body : Type 0 where
  pub promised : ℤ
  pub voted : ℤ
  pub chain : List ℕ

abbrev pub slot_of : SlotRow → Slot
slot_of row = record { id = row.id; place = row.place }

abbrev pub body_of : SlotRow → Body
body_of row = record { promised = row.promised; voted = row.voted; chain = row.chain.items }

-- what `slots` holds at each key
abbrev pub Slots : Type 0
Slots = Slot → Option Body

abbrev pub same_slot : Slot → Slot → Bool
same_slot a b = int_eq a.id b.id && int_eq a.place b.place

-- the same with a row in place of what was at its key
abbrev pub with_row : SlotRow → Slots → Slots
with_row row slots slot = if same_slot (slot_of row) slot then Some (body_of row) else slots slot

abbrev pub no_slots : Slots
no_slots slot = None

-- ---- rows as they are stored: a rowid, and then the columns

abbrev pub is_at : Slot → Row → Bool
is_at slot row = is_eq (value_cmp (column row 1) (Int slot.id)) && is_eq (value_cmp (column row 2) (Int slot.place))

abbrev pub columns_in : Row → Row
columns_in row = column row 1 ∷ column row 2 ∷ column row 3 ∷ column row 4 ∷ column row 5 ∷ []

abbrev pub values_of : Slot → Body → Row
values_of slot body = Int slot.id ∷ Int slot.place ∷ Int body.promised ∷ Int body.voted ∷ Blob body.chain ∷ []

abbrev pub values_at : Slot → Option Body → List Row
values_at slot None = []
values_at slot (Some body) = values_of slot body ∷ []

-- the rowid is an integer, and the columns are four integers and a blob
pub record IsSlotRow (row : Row) : Type 0 where
  pub numbered : is_int (rowid row) ≡ true
  pub slot : Slot
  pub body : Body
  pub is : columns_in row ≡ values_of slot body

-- the rows are those that `slots` holds: at each key the one row, or none
pub record AreSlots (rows : List Row) (slots : Slots) : Type 0 where
  pub typed : AllByRecursion IsSlotRow rows
  pub exact : (slot : Slot) → map columns_in (filter (is_at slot) rows) ≡ values_at slot (slots slot)

-- the rows are that of the last incarnation, or none was stored yet
abbrev pub AreLife : List Row → Option ℤ → Type 0
AreLife rows None = rows ≡ []
AreLife rows (Some last) = (row : Row) × (rows ≡ row ∷ []) × (column row 0 ≡ Int (pos 1)) × (column row 2 ≡ Int last)

-- ---- rows as they are read: the rowid, and then the columns

abbrev pub Entry : Type 0
Entry = Slot × Body

abbrev pub entry_of : SlotRow → Entry
entry_of row = (slot_of row, body_of row)

pub record IsShownAs (shown : Row) (entry : Entry) : Type 0 where
  pub numbered : is_int (rowid shown) ≡ true
  pub is : columns_in shown ≡ values_of entry.0 entry.1

abbrev pub AreShownAs : List Row → List Entry → Type 0
AreShownAs = AllZip IsShownAs

-- by id and then by place
abbrev pub is_below : Slot → Slot → Bool
is_below a b = int_lt a.id b.id || (int_eq a.id b.id && int_lt a.place b.place)

-- each stands below each later one, so no two have one key
abbrev pub AreAscending : List Entry → Type 0
AreAscending = IsAscending (λ a b. is_below a.0 b.0 ≡ true)

-- what a list of rows holds at each key
abbrev pub slots_of : List Entry → Slots
slots_of [] slot = None
slots_of (entry ∷ more) slot = if same_slot entry.0 slot then Some entry.1 else slots_of more slot

-- the incarnation as it is shown
abbrev pub IsShownLife : List Row → Option ℤ → Type 0
IsShownLife shown None = shown ≡ []
IsShownLife shown (Some last) = (row : Row) × (shown ≡ row ∷ []) × (column row 0 ≡ Int (pos 1)) × (column row 1 ≡ Int last)
