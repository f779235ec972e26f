-- A list in parts, one for each span of keys (own).
use Rattle.std.specs.Prelude.{◌≡◌, ◌⊎◌, ℕ, ◌+◌, ◌-◌, ◌/◌, min, List, [], ◌∷◌, ◌++◌, length, map}
use Rattle.std.specs.List.{AllByRecursion}
use Rattle.std.specs.Global.{Vec}
use Rattle.std.specs.Vec.{vec_capacity, vec_len}

-- the place of the part in which a key lies
abbrev pub part_of : ℕ → ℕ
part_of key = min (key / 1000000000) 9

-- the parts, as lists
abbrev pub lists_of : {T : Type 0} → List (Vec T) → List (List T)
lists_of parts = map (λ part. part.items) parts

-- all that lies in them
abbrev pub joined : {A : Type 0} → List (List A) → List A
joined [] = []
joined (list ∷ lists) = list ++ joined lists

abbrev pub all_in : {T : Type 0} → List (Vec T) → List T
all_in parts = joined (lists_of parts)

-- each item lies in the part of its key, if the first part is that at a place
abbrev pub LieFrom : {A : Type 0} → (A → ℕ) → ℕ → List (List A) → Type 0
LieFrom key place [] = Unit {0}
LieFrom key place (list ∷ lists) = AllByRecursion (λ item. part_of (key item) ≡ place) list × LieFrom key (place + 1) lists

-- there is no part, or there are ten
abbrev pub IsNumberOfParts : ℕ → Type 0
IsNumberOfParts number = (number ≡ 0) ⊎ (number ≡ 10)

-- the least room that a part has; none without a part
abbrev pub least_of : ℕ → List ℕ → ℕ
least_of least [] = least
least_of least (other ∷ others) = least_of (min least other) others

abbrev pub least_in : List ℕ → ℕ
least_in [] = 0
least_in (number ∷ others) = least_of number others

abbrev pub free_in : {T : Type 0} → Vec T → ℕ
free_in part = vec_capacity part - vec_len part

abbrev pub frees_of : {T : Type 0} → List (Vec T) → List ℕ
frees_of parts = map free_in parts

abbrev pub room_in : {T : Type 0} → List (Vec T) → ℕ
room_in parts = least_in (frees_of parts)

-- the least room of a part, with what lies in it
abbrev pub wide_in : {T : Type 0} → List (Vec T) → ℕ
wide_in parts = least_in (map (λ part. vec_capacity part) parts)

-- each item lies in the part of its key, of ten or none
pub record AreInTheirParts {T : Type 0} (key : T → ℕ) (parts : List (Vec T)) : Type 0 where
  pub lie : LieFrom key 0 (lists_of parts)
  pub number : IsNumberOfParts (length parts)
