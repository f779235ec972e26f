-- Places of lists that are set, mapped and counted.
use Rattle.std.proofs.Common.{◌≡◌, ◌⊎◌, ℕ, ◌+◌, ◌≤◌, zero, suc, List, [], ◌∷◌, Some, refl, ap, inl, inr, arith}
use Rattle.std.specs.Prelude.{slice_get, slice_set}
use Rattle.std.specs.List.{range_with_len}
use Rattle.mc_model.specs.synod.Lists.{In}

-- what stands at a place is new there, or was there and the place is another
pub set_cases : {A : Type 0} (items : List A) (place : ℕ) (new : A) (other : ℕ) (item : A) → slice_get (slice_set items place new) other ≡ Some item →
    ((other ≡ place) × (item ≡ new)) ⊎ ((slice_get items other ≡ Some item) × (other ≡ place → ⊥))
set_cases [] place new other item is = absurd cc
set_cases (first ∷ items) zero new zero item is = inl (refl, cc)
set_cases (first ∷ items) zero new (suc other) item is = inr (is, λ same. absurd (omega (arith, same)))
set_cases (first ∷ items) (suc place) new zero item is = inr (is, λ same. absurd (omega (arith, same)))
set_cases (first ∷ items) (suc place) new (suc other) item is = elim (set_cases items place new other item is) [
  | inl here ↦ inl (ap suc here.0, here.1)
  | inr apart ↦ inr (apart.0, λ same. apart.1 (omega (arith, same)))
]

-- ---- numbers in a row

pub row_least : (first count number : ℕ) → In number (range_with_len first count) → first ≤ number
row_least first zero number among = absurd among
row_least first (suc count) number (inl same) = omega (arith, same)
row_least first (suc count) number (inr later) = let least = row_least (first + 1) count number later in omega (arith, least)
