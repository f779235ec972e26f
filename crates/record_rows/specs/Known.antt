-- The rows of `known`, behind `whose`, as `add_beside` of `record_rows` makes them (own).
use Rattle.std.specs.List.{AllZip}
use Rattle.std.specs.Prelude.{◌≡◌, ◌⊎◌, ℕ, ℤ, IsTrue, List, [], ◌∷◌, map, slice_get, codes, Some}
use Rattle.sqlite.specs.declared.types.Value.TheVariants.{Null, Int, Blob}
use Rattle.sqlite.specs.Order.{Row, column}
use Rattle.sqlite.specs.State.{State}
use Rattle.sqlite.specs.Table.{Table}
use Rattle.sqlite.specs.Tree.{Trees}
use Rattle.sqlite.specs.Effect.{Database}
use Rattle.sqlite_rules.specs.Lists.{Has}
use Rattle.record_rows.specs.Beside.{IsSchemaOf}
use Rattle.record_rows.specs.Ours.{IsOurs}
use Rattle.record_rows.specs.Tables.{Layout, life_tree, slots_tree}
use Rattle.record_rows.specs.declared.known_row.KnownRow.{KnownRow}

-- a row, which stands under its id
pub record Known : Type 0 where
  pub id : ℤ
  pub place : ℤ
  pub voted : ℤ
  pub voters : ℤ
  pub chain : List ℕ

abbrev pub known_of : KnownRow → Known
known_of row = record { id = row.id; place = row.place; voted = row.voted; voters = row.voters; chain = row.chain.items }

abbrev pub known_in : List KnownRow → List Known
known_in rows = map known_of rows

-- as it is stored: the rowid, a column that has its value from that, and the others
abbrev pub stored : Known → Row
stored k = Int k.id ∷ Null ∷ Int k.place ∷ Int k.voted ∷ Int k.voters ∷ Blob k.chain ∷ []

-- the trees in which the rows of the two tables stand
abbrev pub whose_tree : ℕ
whose_tree = 3

abbrev pub known_tree : ℕ
known_tree = 4

pub record StandsAt (tables : List Table) (at : ℕ) (name : List ℕ) (tree : ℕ) : Type 0 where
  pub table : Table
  pub stands : slice_get tables at ≡ Some table
  pub named : table.name ≡ name
  pub rooted : table.tree ≡ tree

-- `whose` and `known` are the third table and the fourth
pub record HasKnown (tables : List Table) : Type 0 where
  pub whose : StandsAt tables 2 (codes "whose") whose_tree
  pub known : StandsAt tables 3 (codes "known") known_tree

-- a row as it is shown
pub record IsShownKnown (shown : Row) (k : Known) : Type 0 where
  pub id : column shown 0 ≡ Int k.id
  pub place : column shown 1 ≡ Int k.place
  pub voted : column shown 2 ≡ Int k.voted
  pub voters : column shown 3 ≡ Int k.voters
  pub chain : column shown 4 ≡ Blob k.chain

abbrev pub AreShownKnown : List Row → List Known → Type 0
AreShownKnown = AllZip IsShownKnown

-- the columns that are shown
abbrev pub shown_of : Row → Row
shown_of r = column r 0 ∷ column r 2 ∷ column r 3 ∷ column r 4 ∷ column r 5 ∷ []

-- these trees hold such a row
abbrev pub Holds : Trees → Known → Type 0
Holds db k = (r : Row) × Has (db known_tree) r × IsShownKnown (shown_of r) k

-- Each row that is stored was before, or is one of these; and the other tables are as they were, but for such as stand behind `known`.
pub record PutsIn (layout : Layout) (rows : List KnownRow) (old new : Trees) : Type 0 where
  pub only : (r : Row) → Has (new known_tree) r → Has (old known_tree) r ⊎ Has (map stored (known_in rows)) r
  pub slots : new (slots_tree layout) ≡ old (slots_tree layout)
  pub life : new (life_tree layout) ≡ old (life_tree layout)
  pub whose : new whose_tree ≡ old whose_tree

-- these trees may be what a call leaves that puts rows in
pub record PutsKnown (rows : List KnownRow) (old : State) (db : Trees) : Type 0 where
  pub each : (layout : Layout) → IsOurs layout old → HasKnown old.now.schema.tables → PutsIn layout rows old.now.trees db

pub record HasPutKnown (rows : List KnownRow) (old new : State) : Type 0 where
  pub puts : PutsKnown rows old new.now.trees
  pub ours : (layout : Layout) → IsOurs layout old → HasKnown old.now.schema.tables → IsOurs layout new

-- each row that was read is stored
abbrev pub HasReadKnown : List Known → State → Type 0
HasReadKnown ks s = (layout : Layout) → IsOurs layout s → HasKnown s.now.schema.tables → (k : Known) → Has ks k → Holds s.now.trees k

-- a connection without the table, of which a read says nothing
abbrev pub LacksKnown : State → Trees → Type 0
LacksKnown s db = (layout : Layout) → IsOurs layout s → HasKnown s.now.schema.tables → ⊥

-- ---- inside a transaction

pub record AreKnownIn (layout : Layout) (rows : List KnownRow) (old new : Database) : Type 0 where
  pub schema : new.schema ≡ old.schema
  pub puts : PutsIn layout rows old.trees new.trees

-- the transaction goes on, and sees the rows
pub record HasPutInside (rows : List KnownRow) (old new : State) : Type 0 where
  pub inside : IsTrue new.in_transaction
  pub each : (layout : Layout) → IsSchemaOf layout old.now.schema → HasKnown old.now.schema.tables → AreKnownIn layout rows old.now new.now
