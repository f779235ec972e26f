-- What contracts see of a shelf: a table from numbers to values (own).
use Rattle.std.specs.Prelude.{◌⊎◌, ℕ, ◌+◌, ◌*◌, ◌≤◌, min, List, length, refl, Option}
use Rattle.std.specs.Ordering.{nat_cmp}
use Rattle.std.specs.Map.{lookup}
use Rattle.std.specs.BTreeMap.{insert_entry, is_at}
use Rattle.std.specs.Coded.{Coded, code_by, coded×, coded_ℕ, coded_list}

-- the keys with their values, the keys ascending, and for how many more there is room
pub record Shelved (V : Type 0) : Type 0 where
  pub entries : List (ℕ × V)
  pub room : ℕ

-- it is stored as the pair of its fields
abbrev pub shelved_code : {V : Type 0} → Coded V → Coded (Shelved V)
shelved_code {V} code =
    code_by
    (List (ℕ × V) × ℕ)
    (coded× (coded_list (coded× coded_ℕ code)) coded_ℕ)
    (λ s. (s.entries, s.room))
    (λ p. record { entries = p.0; room = p.1 })
    (λ _. refl)

module _ {V : Type 0} where
  -- the value of a key, if there is one
  abbrev pub value_at : List (ℕ × V) → ℕ → Option V
  value_at entries key = lookup (is_at (nat_cmp key)) entries

  -- the entries with this value under the key, in the place of the one that was there
  abbrev pub with_value : List (ℕ × V) → ℕ → V → List (ℕ × V)
  with_value entries key value = insert_entry nat_cmp entries key value

  -- So much room serves for more entries: there is enough on the shelf, or it holds all of them, and twice as many as there are, so
  -- that moving them there is paid by those that come.
  abbrev pub Serves : Shelved V → ℕ → ℕ → Type 0
  Serves shelf more room =
      (more ≤ shelf.room)
      ⊎ ((length shelf.entries + more ≤ room) × (min (2 * length shelf.entries) 18446744073709551615 ≤ room))
