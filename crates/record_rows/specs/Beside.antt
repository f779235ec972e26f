-- The tables that may stand beside the two (own). A further one is one more form in the list, here and in `beside.rt`.
use Rattle.std.specs.Prelude.{◌≡◌, ◌⊎◌, ◌≤◌, ℕ, true, false, List, [], ◌∷◌, length, drop, codes, Some}
use Rattle.std.specs.List.{AllByRecursion}
use Rattle.sqlite.specs.Kind.TheVariants.{Integer, Any}
use Rattle.sqlite.specs.Schema.{Schema}
use Rattle.sqlite.specs.Table.{Table}
use Rattle.sqlite.specs.Term.{Term}
use Rattle.sqlite_schema.specs.declared.schema.Column.{Column}
use Rattle.record_rows.specs.Tables.{Layout, column_of, is_one, schema_of}

-- how such a table is made: its rows stand under the integer in their first column
pub record Form : Type 0 where
  pub name : List ℕ
  pub columns : List Column
  pub checks : List Term

-- the first column, and the others: integers or octets, and never NULL
abbrev pub key : List ℕ → Column
key name = column_of name Integer false

abbrev pub whole : List ℕ → Column
whole name = column_of name Integer true

abbrev pub octets : List ℕ → Column
octets name = column_of name Any true

-- whose the store is; it has one row at most
abbrev pub whose : Form
whose = record {
  name = codes "whose";
  columns = key (codes "one") ∷ whole (codes "cluster") ∷ whole (codes "node") ∷ whole (codes "nodes") ∷ whole (codes "at") ∷ [];
  checks = is_one ∷ [];
}

-- which votes made the node know a chain
abbrev pub known : Form
known = record {
  name = codes "known";
  columns = key (codes "id") ∷ whole (codes "place") ∷ whole (codes "voted") ∷ whole (codes "voters") ∷ octets (codes "chain") ∷ [];
  checks = [];
}

-- which ids are gone, in spans
abbrev pub gone : Form
gone = record {
  name = codes "gone";
  columns = key (codes "first") ∷ whole (codes "last") ∷ whole (codes "state") ∷ [];
  checks = [];
}

-- the messages that have ended, one row each
abbrev pub ended : Form
ended = record {
  name = codes "ended";
  columns = key (codes "id") ∷ whole (codes "place") ∷ whole (codes "promised") ∷ whole (codes "voted") ∷ whole (codes "voters") ∷ octets
      (codes "chain") ∷ octets (codes "below") ∷ [];
  checks = [];
}

abbrev pub forms : List Form
forms = whose ∷ known ∷ gone ∷ ended ∷ []

abbrev pub table_of : Form → ℕ → Table
table_of form tree = record {
  name = form.name;
  tree = tree;
  columns = form.columns;
  key = Some 0;
  primary = 0 ∷ [];
  uniques = [];
  orders = [];
  checks = form.checks;
  references = [];
  computed = [];
  stamps = record { places = []; terms = []; formats = [] };
  is_counted = false;
}

abbrev pub IsAmong : Form → List Form → Type 0
IsAmong form [] = ⊥
IsAmong form (first ∷ more) = (form ≡ first) ⊎ IsAmong form more

-- the table is of one of the forms, and its rows stand in none of the three trees of the two
pub record IsBeside (table : Table) : Type 0 where
  pub form : Form
  pub listed : IsAmong form forms
  pub is : table ≡ table_of form table.tree
  pub apart : 3 ≤ table.tree

-- how many there are at most: what a statement means is computed for each number of them
abbrev pub most_beside : ℕ
most_beside = 8

pub record AreBeside (tables : List Table) : Type 0 where
  pub each : AllByRecursion IsBeside tables
  pub few : length tables ≤ most_beside

-- what stands behind the first two tables
abbrev pub beside_in : Schema → List Table
beside_in schema = drop 2 schema.tables

-- the two tables, and behind them none but such as may stand there
unfoldable pub IsSchemaOf : Layout → Schema → Type 0
IsSchemaOf layout schema = (beside : List Table) × AreBeside beside × (schema ≡ schema_of layout beside)
