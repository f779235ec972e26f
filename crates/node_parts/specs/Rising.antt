-- Ids that rise (own).
use Rattle.std.specs.Prelude.{◌≡◌, ℕ, ◌<◌, ◌≤◌, Bool, ◌==◌, List, [], ◌∷◌, drop, length, get_or, Some, Result, Ok, Err}
use Rattle.std.specs.BTreeSet.{insert_key}
use Rattle.std.specs.List.{AllByRecursion, insert, list_any, slice_get}
use Rattle.std.specs.Ordering.{nat_cmp}

abbrev pub AreRising : List ℕ → Type 0
AreRising [] = Unit {0}
AreRising (id ∷ others) = AllByRecursion (λ (other : ℕ). id < other) others × AreRising others

-- one of these ids
abbrev pub has_id : List ℕ → ℕ → Bool
has_id ids id = list_any (λ other. other == id) ids

-- all before a place are lower than an id, and the others are not
pub record IsCut (ids : List ℕ) (id place : ℕ) : Type 0 where
  pub within : place ≤ length ids
  pub before : (other d : ℕ) → other < place → get_or ids other d < id
  pub behind : (other d : ℕ) → place ≤ other → other < length ids → id ≤ get_or ids other d

-- where an id stands among others, or would go
abbrev pub IsPlaceOf : List ℕ → ℕ → Result ℕ ℕ → Type 0
IsPlaceOf ids id (Ok place) = (insert_key nat_cmp ids id ≡ ids) × ((slice_get ids place ≡ Some id) × IsCut ids id place)
IsPlaceOf ids id (Err place) = (insert_key nat_cmp ids id ≡ insert ids place id) × IsCut ids id place

-- of ids that rise, those from a number on
pub record IsRest (ids : List ℕ) (from : ℕ) (rest : List ℕ) : Type 0 where
  pub rising : AreRising ids
  pub place : ℕ
  pub cut : IsCut ids from place
  pub behind : rest ≡ drop place ids
