-- Where a key stands among entries.
use Rattle.std.specs.Prelude.{◌≡◌, ℕ, ◌<◌, ◌≤◌, List, length, map, slice_index_or, Result, Ok, Err}
use Rattle.std.specs.Ordering.{nat_cmp}
use Rattle.std.specs.Map.{keys_of}
use Rattle.std.specs.List.Sorted.{IsStrictlySortedBy}
use Rattle.std.specs.Borrow.{Bor}
use Rattle.std.specs.Global.{Box, Vec}
use Rattle.std.specs.Box.{box_value}
use Rattle.shelf.specs.Parted.{IsNumberOfParts, LieFrom, joined}

-- the entries, as contracts see them
abbrev pub entry_of : {V : Type 0} → ℕ × Box V → ℕ × V
entry_of entry = (entry.0, box_value entry.1)

abbrev pub entries_of : {V : Type 0} → List (ℕ × Box V) → List (ℕ × V)
entries_of entries = map entry_of entries

-- the entries in parts, and all of them
abbrev pub lists_in : {V : Type 0} → List (Vec (ℕ × Box V)) → List (List (ℕ × V))
lists_in parts = map (λ part. entries_of part.items) parts

abbrev pub entries_in : {V : Type 0} → List (Vec (ℕ × Box V)) → List (ℕ × V)
entries_in parts = joined (lists_in parts)

-- each entry lies in the part of its key, and all ascend
pub record AreInParts {V : Type 0} (parts : List (Vec (ℕ × Box V))) : Type 0 where
  pub ascend : IsStrictlySortedBy nat_cmp (keys_of (entries_in parts))
  pub lie : LieFrom (λ entry. entry.0) 0 (lists_in parts)
  pub number : IsNumberOfParts (length parts)

-- a key and a reference to its value
abbrev pub entry_seen : {V : Type 0} → ℕ × Bor V → ℕ × V
entry_seen entry = (entry.0, entry.1.now)

-- the key stands there, after smaller ones
pub record StandsAt {V : Type 0} (entries : List (ℕ × V)) (key place : ℕ) : Type 0 where
  pub within : place < length entries
  pub here : (d : ℕ × V) → (slice_index_or entries place d).0 ≡ key
  pub before : (k : ℕ) (d : ℕ × V) → k < place → (slice_index_or entries k d).0 < key

-- the key would go there, between smaller and greater ones
pub record IsGapAt {V : Type 0} (entries : List (ℕ × V)) (key place : ℕ) : Type 0 where
  pub within : place ≤ length entries
  pub before : (k : ℕ) (d : ℕ × V) → k < place → (slice_index_or entries k d).0 < key
  pub behind : (k : ℕ) (d : ℕ × V) → place ≤ k → k < length entries → key < (slice_index_or entries k d).0

abbrev pub IsFoundPlace : {V : Type 0} → List (ℕ × V) → ℕ → Result ℕ ℕ → Type 0
IsFoundPlace entries key (Ok place) = StandsAt entries key place
IsFoundPlace entries key (Err place) = IsGapAt entries key place

-- of entries whose keys ascend
abbrev pub IsPlaceOf : {V : Type 0} → List (ℕ × V) → ℕ → Result ℕ ℕ → Type 0
IsPlaceOf entries key place = IsStrictlySortedBy nat_cmp (keys_of entries) → IsFoundPlace entries key place
