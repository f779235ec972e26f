-- The two tables as schemas, and those that may stand beside them (own). A table that was absent is made after the one that is there, so the two stand in either
-- order, and the others behind them.
use Rattle.std.specs.Prelude.{ℕ, pos, true, false, Bool, List, [], ◌∷◌, codes, None, Some}
use Rattle.sqlite.specs.declared.types.Value.TheVariants.{Null, Int}
use Rattle.sqlite.specs.Collation.TheVariants.{Binary}
use Rattle.sqlite.specs.Kind.{Kind}
use Rattle.sqlite.specs.Kind.TheVariants.{Integer, Any}
use Rattle.sqlite.specs.Term.{Term, lit, col, op2}
use Rattle.sqlite.specs.Table.{Table}
use Rattle.sqlite.specs.Schema.{Schema}
use Rattle.sqlite_schema.specs.declared.schema.Column.{Column}
use Rattle.sqlite_schema.specs.declared.schema.Index.{Index}
use Rattle.sqlite_sql.specs.declared.ops.BinaryOp.TheVariants.{Compare}
use Rattle.sqlite_sql.specs.declared.ops.CompareOp.TheVariants.{Eq}
use Rattle.sqlite_value.specs.Keys.{plain}

abbrev pub column_of : List ℕ → Kind → Bool → Column
column_of name kind not_null = record { name = name; kind = kind; is_strict = false; not_null = not_null; default = Null; collation = Binary }

-- CHECK (one = 1)
abbrev pub is_one : Term
is_one = op2 (Compare Eq Binary) (col 1 0) (lit (Int (pos 1)))

abbrev pub life_table : ℕ → Table
life_table tree = record {
  name = codes "life";
  tree = tree;
  columns = column_of (codes "one") Integer false ∷ column_of (codes "incarnation") Integer true ∷ [];
  key = Some 0;
  primary = 0 ∷ [];
  uniques = [];
  orders = [];
  checks = is_one ∷ [];
  references = [];
  computed = [];
  stamps = record { places = []; terms = []; formats = [] };
  is_counted = false;
}

abbrev pub slots_table : ℕ → Table
slots_table tree = record {
  name = codes "slots";
  tree = tree;
  columns = column_of (codes "id") Integer true ∷ column_of (codes "place") Integer true ∷ column_of (codes "promised") Integer true ∷ column_of
      (codes "voted") Integer true ∷ column_of (codes "chain") Any true ∷ [];
  key = None;
  primary = 1 ∷ 2 ∷ [];
  uniques = (1 ∷ 2 ∷ []) ∷ [];
  orders = plain ∷ [];
  checks = [];
  references = [];
  computed = [];
  stamps = record { places = []; terms = []; formats = [] };
  is_counted = false;
}

-- the index of the primary key of `slots`
abbrev pub slots_index : ℕ → ℕ → Index
slots_index table tree = record { name = codes "sqlite_autoindex_slots_1"; tree = tree; table = table; columns = 1 ∷ 2 ∷ []; order = plain; is_unique = true }

pub data Layout : Type 0 where
  life_first : Layout
  slots_first : Layout

-- the trees in which the rows of the tables stand
abbrev pub life_tree : Layout → ℕ
life_tree life_first = 0
life_tree slots_first = 2

abbrev pub slots_tree : Layout → ℕ
slots_tree life_first = 1
slots_tree slots_first = 0

-- the two tables, and these behind them
abbrev pub schema_of : Layout → List Table → Schema
schema_of life_first beside = record { tables = life_table 0 ∷ slots_table 1 ∷ beside; indexes = slots_index 1 2 ∷ []; views = [] }
schema_of slots_first beside = record { tables = slots_table 0 ∷ life_table 2 ∷ beside; indexes = slots_index 0 1 ∷ []; views = [] }

-- which of the tables are there
pub data Present : Type 0 where
  neither : Present
  life_alone : Present
  slots_alone : Present
  both : Layout → List Table → Present

abbrev pub schema_in : Present → Schema
schema_in neither = record { tables = []; indexes = []; views = [] }
schema_in life_alone = record { tables = life_table 0 ∷ []; indexes = []; views = [] }
schema_in slots_alone = record { tables = slots_table 0 ∷ []; indexes = slots_index 0 1 ∷ []; views = [] }
schema_in (both layout beside) = schema_of layout beside
