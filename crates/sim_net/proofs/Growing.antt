-- A list that grew by one at its end.
use Rattle.std.proofs.Common.{◌≡◌, ◌⊎◌, ℕ, zero, suc, List, [], ◌∷◌, ◌++◌, length, Some, refl, sym, ap, inl, inr}
use Rattle.std.specs.List.{slice_get}

some_is : {A : Type 0} {a b : A} → Some a ≡ Some b → a ≡ b
some_is same = cc

-- what stands at a place is what came, at the end, or stood there before
pub get_push : {A : Type 0} (xs : List A) (k : ℕ) (x y : A) → slice_get (xs ++ x ∷ []) k ≡ Some y → ((k ≡ length xs) × (y ≡ x)) ⊎ (slice_get xs k ≡ Some y)
get_push [] zero x y is = inl (refl, sym (some_is is))
get_push [] (suc k) x y is = absurd cc
get_push (z ∷ xs) zero x y is = inr is
get_push (z ∷ xs) (suc k) x y is = elim (get_push xs k x y is) [
  | inl both ↦ inl (ap suc both.0, both.1)
  | inr before ↦ inr before
]
