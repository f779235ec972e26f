-- The statements by which the tables beside the two are made, and whose a store is written and read (own). What a statement does the kit's `sqlite` says.
use Rattle.std.specs.Prelude.{◌≡◌, ◌⊎◌, ◌||◌, ℕ, pos, Bool, false, List, [], ◌∷◌, ◌++◌, codes, bytes_eq, Option, Some, None}
use Rattle.sqlite.specs.declared.types.Value.TheVariants.{Null, Int}
use Rattle.sqlite.specs.Order.{Row, column}
use Rattle.sqlite.specs.State.{State, Shown}
use Rattle.sqlite.specs.Table.{Table}
use Rattle.record_rows.specs.declared.whose.WhoseRow.{WhoseRow}
use Rattle.record_rows.specs.Beside.{table_of, whose}
use Rattle.record_rows.specs.Ours.{IsOurs}
use Rattle.record_rows.specs.Tables.{Layout, life_tree, schema_of, slots_tree}

-- all of them, in one transaction
abbrev pub add_text : List ℕ
add_text =
    codes "BEGIN; CREATE TABLE whose (one INTEGER PRIMARY KEY CHECK (one = 1), cluster INTEGER NOT NULL, node INTEGER NOT NULL, nodes INTEGER NOT NULL, "
    ++ codes "at INTEGER NOT NULL); CREATE TABLE known (id INTEGER PRIMARY KEY, place INTEGER NOT NULL, voted INTEGER NOT NULL, voters INTEGER NOT NULL, "
    ++ codes "chain BLOB NOT NULL); CREATE TABLE gone (first INTEGER PRIMARY KEY, last INTEGER NOT NULL, state INTEGER NOT NULL); "
    ++ codes "CREATE TABLE ended (id INTEGER PRIMARY KEY, place INTEGER NOT NULL, promised INTEGER NOT NULL, voted INTEGER NOT NULL, "
    ++ codes "voters INTEGER NOT NULL, chain BLOB NOT NULL, below BLOB NOT NULL); COMMIT"

abbrev pub put_whose_text : List ℕ
put_whose_text = codes "INSERT INTO whose (one, cluster, node, nodes, at) VALUES (1, ?1, ?2, ?3, ?4)"

abbrev pub read_whose_text : List ℕ
read_whose_text = codes "SELECT cluster, node, nodes, at FROM whose"

-- what is put in for ?1 to ?4
abbrev pub values_in : WhoseRow → Row
values_in row = Int row.cluster ∷ Int row.node ∷ Int row.nodes ∷ Int row.at ∷ []

-- a row as it is shown
pub record IsShownWhose (shown : Row) (row : WhoseRow) : Type 0 where
  pub cluster : column shown 0 ≡ Int row.cluster
  pub node : column shown 1 ≡ Int row.node
  pub nodes : column shown 2 ≡ Int row.nodes
  pub at : column shown 3 ≡ Int row.at

abbrev pub AreShownWhose : List Row → Option WhoseRow → Type 0
AreShownWhose shown None = shown ≡ []
AreShownWhose shown (Some row) = (first : Row) × (shown ≡ first ∷ []) × IsShownWhose first row

-- whether one of the tables has this name
abbrev pub is_named : List ℕ → List Table → Bool
is_named name [] = false
is_named name (table ∷ more) = bytes_eq table.name name || is_named name more

-- there is no such table, or its rows were read
abbrev pub HasReadWhose : State → State → Option WhoseRow → Type 0
HasReadWhose old new row =
    ((is_named (codes "whose") old.now.schema.tables ≡ false) × (row ≡ None)) ⊎ ((shown : List Row) × Shown read_whose_text [] old new shown
    × AreShownWhose shown row)

-- ---- in a database in which `whose` stands first behind the two, as `add_beside` makes it

abbrev pub HasWhose : Layout → State → Type 0
HasWhose layout s = (rest : List Table) × (s.now.schema ≡ schema_of layout (table_of whose 3 ∷ rest))

-- the rows of `whose` are this one
abbrev pub AreWhose : List Row → WhoseRow → Type 0
AreWhose rows row = rows ≡ (Int (pos 1) ∷ Null ∷ values_in row) ∷ []

-- the row is stored if there was none, and the two tables are as they were
pub record WhosePut (row : WhoseRow) (layout : Layout) (old new : State) : Type 0 where
  pub put : old.now.trees 3 ≡ [] → AreWhose (new.now.trees 3) row
  pub life : new.now.trees (life_tree layout) ≡ old.now.trees (life_tree layout)
  pub slots : new.now.trees (slots_tree layout) ≡ old.now.trees (slots_tree layout)
  pub ours : IsOurs layout new

abbrev pub HasPutWhose : WhoseRow → State → State → Type 0
HasPutWhose row old new = (layout : Layout) → IsOurs layout old → HasWhose layout old → WhosePut row layout old new

-- its columns behind the first, in the order in which they are shown
abbrev pub shown_of : Row → Row
shown_of r = column r 2 ∷ column r 3 ∷ column r 4 ∷ column r 5 ∷ []

-- the rows of `whose` are that of what was read, or none
abbrev pub AreFoundWhose : List Row → Option WhoseRow → Type 0
AreFoundWhose rows None = rows ≡ []
AreFoundWhose rows (Some row) = (first : Row) × (rows ≡ first ∷ []) × IsShownWhose (shown_of first) row

abbrev pub HasFoundWhose : State → Option WhoseRow → Type 0
HasFoundWhose s row = (layout : Layout) → HasWhose layout s → AreFoundWhose (s.now.trees 3) row
