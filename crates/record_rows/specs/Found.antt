-- Which of the two tables a schema has, and what stands behind them (own).
use Rattle.std.specs.Prelude.{◌≡◌, false, List, [], ◌∷◌, None, Some}
use Rattle.sqlite.specs.Table.{Table}
use Rattle.sqlite.specs.Schema.{Schema}
use Rattle.sqlite_schema.specs.declared.schema.Index.{Index}
use Rattle.record_rows.specs.declared.tables.Found.{Found}
use Rattle.record_rows.specs.declared.tables.Found.TheVariants.{Neither, LifeAlone, SlotsAlone, LifeFirst, SlotsFirst, Foreign}
use Rattle.record_rows.specs.Beside.{AreBeside}
use Rattle.sqlite_value.specs.Keys.{plain}
use Rattle.record_rows.specs.Tables.{Present, life_table, slots_table, slots_index, schema_in}
use Rattle.record_rows.specs.Tables.{neither, life_alone, slots_alone, both, life_first, slots_first}

-- the table has no reference, no default that is computed, and counts no rowids
pub record IsPlainTable (table : Table) : Type 0 where
  pub references : table.references ≡ []
  pub computed : table.computed ≡ []
  pub stamps : table.stamps ≡ record { places = []; terms = []; formats = [] }
  pub counted : table.is_counted ≡ false

-- the rows stand under the integer in the first column, and there is no other key
pub record HasFirstKey (table : Table) : Type 0 where
  pub key : table.key ≡ Some 0
  pub primary : table.primary ≡ 0 ∷ []
  pub uniques : table.uniques ≡ []
  pub orders : table.orders ≡ []

-- the rows are unique by the first two columns
pub record HasSlotsKeys (table : Table) : Type 0 where
  pub key : table.key ≡ None
  pub primary : table.primary ≡ 1 ∷ 2 ∷ []
  pub uniques : table.uniques ≡ (1 ∷ 2 ∷ []) ∷ []
  pub orders : table.orders ≡ plain ∷ []

-- ---- which of the two tables there are

-- which tables stand beside the two
abbrev pub those_beside : Present → List Table
those_beside neither = []
those_beside life_alone = []
those_beside slots_alone = []
those_beside (both layout beside) = beside

-- none of the schemas that are ours: it is not empty, and has neither one of the two tables alone, nor both and behind them such as may stand there
abbrev pub IsForeign : Schema → Type 0
IsForeign schema = (present : Present) → AreBeside (those_beside present) → schema ≡ schema_in present → ⊥

abbrev pub AreForeign : List Table → List Index → Type 0
AreForeign tables indexes =
    (present : Present) → AreBeside (those_beside present) → tables ≡ (schema_in present).tables → indexes ≡ (schema_in present).indexes → ⊥

abbrev pub IsFound : Found → List Table → List Index → Type 0
IsFound Neither tables indexes = (tables ≡ []) × (indexes ≡ [])
IsFound LifeAlone tables indexes = (tables ≡ life_table 0 ∷ []) × (indexes ≡ [])
IsFound SlotsAlone tables indexes = (tables ≡ slots_table 0 ∷ []) × (indexes ≡ slots_index 0 1 ∷ [])
IsFound LifeFirst tables indexes = (beside : List Table) × AreBeside beside × (tables ≡ life_table 0 ∷ slots_table 1 ∷ beside) × (indexes ≡ slots_index 1 2 ∷ [])
IsFound SlotsFirst tables indexes = (beside : List Table) × AreBeside beside × (tables ≡ slots_table 0 ∷ life_table 2 ∷ beside) × (indexes ≡ slots_index 0 1 ∷ [])
IsFound Foreign tables indexes = AreForeign tables indexes

abbrev pub IsFoundIn : Schema → Found → Type 0
IsFoundIn schema Neither = schema ≡ schema_in neither
IsFoundIn schema LifeAlone = schema ≡ schema_in life_alone
IsFoundIn schema SlotsAlone = schema ≡ schema_in slots_alone
IsFoundIn schema LifeFirst = (beside : List Table) × AreBeside beside × (schema ≡ schema_in (both life_first beside))
IsFoundIn schema SlotsFirst = (beside : List Table) × AreBeside beside × (schema ≡ schema_in (both slots_first beside))
IsFoundIn schema Foreign = IsForeign schema
