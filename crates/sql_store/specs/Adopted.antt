-- What a database holds whose tables may be absent, and what making those leaves (own).
use Rattle.std.specs.Prelude.{◌≡◌, ℕ}
use Rattle.mc_model.specs.synod.Acceptor.{Records, blank}
use Rattle.sqlite.specs.Tree.{Trees}
use Rattle.sqlite.specs.State.{State}
use Rattle.record_rows.specs.Beside.{AreBeside}
use Rattle.record_rows.specs.Found.{those_beside}
use Rattle.record_rows.specs.Ours.{IsOurs}
use Rattle.record_rows.specs.Tables.{Layout, Present, life_first, slots_first, neither, life_alone, slots_alone, both, schema_in}
use Rattle.stable_store.specs.Stored.{AreSame}
use Rattle.sql_records.specs.Stores.{HasRecords, IsStarted}

abbrev pub no_records : Records
no_records slot = blank

-- a table that is absent holds nothing
abbrev pub FoundRecords : Present → Trees → Records → Type 0
FoundRecords neither db records = AreSame records no_records
FoundRecords life_alone db records = AreSame records no_records
FoundRecords slots_alone db records = HasRecords slots_first db records
FoundRecords (both layout beside) db records = HasRecords layout db records

abbrev pub FoundStarted : Present → Trees → ℕ → Type 0
FoundStarted neither db started = started ≡ 0
FoundStarted life_alone db started = IsStarted life_first db started
FoundStarted slots_alone db started = started ≡ 0
FoundStarted (both layout beside) db started = IsStarted layout db started

-- in which order the tables stand once the absent ones are made
abbrev pub layout_in : Present → Layout
layout_in neither = life_first
layout_in life_alone = life_first
layout_in slots_alone = slots_first
layout_in (both layout beside) = layout

-- the database has these of the two tables, and beside them none but such as may stand there
pub record IsPresent (present : Present) (s : State) : Type 0 where
  pub schema : s.now.schema ≡ schema_in present
  pub beside : AreBeside (those_beside present)

-- these trees hold what those did, in both tables
pub record Completes (present : Present) (old db : Trees) : Type 0 where
  pub records : (records : Records) → FoundRecords present old records → HasRecords (layout_in present) db records
  pub started : (started : ℕ) → FoundStarted present old started → IsStarted (layout_in present) db started

abbrev pub Adds : State → Trees → Type 0
Adds old db = (present : Present) → old.now.schema ≡ schema_in present → Completes present old.now.trees db

-- both tables are there, and hold what the database did
pub record IsFilled (layout : Layout) (old new : State) : Type 0 where
  pub ours : IsOurs layout new
  pub adds : Adds old new.now.trees
  pub laid : (present : Present) → old.now.schema ≡ schema_in present → layout ≡ layout_in present
