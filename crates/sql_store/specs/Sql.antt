-- A store (own).
use Rattle.std.specs.Prelude.{◌≡◌, ℕ, Bool, true, false, refl}
use Rattle.std.specs.Coded.{Coded, code_by, coded×, coded_ℕ, coded_bool}
use Rattle.sqlite.specs.State.{HasCleanDisk}
use Rattle.sqlite.specs.Held.{Held, held_code, state}
use Rattle.sqlite_trees.specs.declared.store.Store.{Ghosts}
use Rattle.record_rows.specs.Ours.{IsOurs}
use Rattle.record_rows.specs.Tables.{Layout, life_first, slots_first}
use Rattle.stable_store.specs.Stored.{Stored}
use Rattle.sql_records.specs.Stores.{stored_over}

-- a store: its connection, in which order the tables were made, whether it is spent, and how often the device failed
pub record Sql (S : Type 0) : Type 0 where
  pub conn : Held S
  pub layout : Layout
  pub spent : Bool
  pub failed : ℕ

-- unless it is spent, and while the disk was true, its connection has the two tables
abbrev pub IsKept : {S : Type 0} → Ghosts S → Held S → Layout → Bool → Type 0
IsKept g conn layout spent = spent ≡ false → HasCleanDisk (state g conn) → IsOurs layout (state g conn)

abbrev pub stored_in : {S : Type 0} → Ghosts S → Sql S → Stored
stored_in g s = stored_over s.layout (state g s.conn) s.spent s.failed

-- ---- its code

abbrev is_life_first : Layout → Bool
is_life_first life_first = true
is_life_first slots_first = false

abbrev layout_by : Bool → Layout
layout_by true = life_first
layout_by false = slots_first

pub layout_back : (layout : Layout) → layout_by (is_life_first layout) ≡ layout
layout_back life_first = refl
layout_back slots_first = refl

abbrev pub layout_code : Coded Layout
layout_code = code_by Bool coded_bool is_life_first layout_by layout_back

abbrev pub sql_code : {S : Type 0} → Coded S → Coded (Sql S)
sql_code {S} store =
    code_by (Held S × (Layout × (Bool × ℕ))) (coded× (held_code store) (coded× layout_code (coded× coded_bool coded_ℕ)))
    (λ s. (s.conn, (s.layout, (s.spent, s.failed))))
    (λ p. record { conn = p.0; layout = p.1.0; spent = p.1.1.0; failed = p.1.1.1 })
    (λ _. refl)
