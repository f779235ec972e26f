-- The first of a list that passes a test: where it stands, and the list without it.
use Rattle.std.proofs.Common.{◌≡◌, ◌<◌, ◌≤◌, ℕ, zero, suc, Bool, true, false, cond, List, [], ◌∷◌, Some, None, length, get_or, find, refl, ap, ◌∙◌, arith}
use Rattle.std.specs.List.{remove, position, position_or_len, slice_get}
use Rattle.std.proofs.lemmas.List.Folds.{find_at}
use Rattle.std.proofs.lemmas.List.Quantifiers.{position-Some}
use Rattle.std.proofs.lemmas.Grind.{common_steps}
use Rattle.std.proofs.lemmas.Option.{slice_get_past}
use Rattle.sessions.specs.Windows.{without_first}

found_at : {X : Type 0} (p : X → Bool) (xs : List X) (i : ℕ) (d : X) → i < length xs → p (get_or xs i d) ≡ true →
    ((k : ℕ) → k < i → p (get_or xs k d) ≡ false) →
    find p xs ≡ Some (get_or xs i d)
found_at p [] i d within passes fail = absurd (omega arith)
found_at p (x ∷ xs) zero d within passes fail = ap (λ b. cond b (Some x) (find p xs)) passes
found_at p (x ∷ xs) (suc i) d within passes fail =
    ap (λ b. cond b (Some x) (find p xs)) (fail 0 (omega arith)) ∙ found_at p xs i d (omega arith) passes (λ k below. fail (suc k) (omega arith))

left_at : {X : Type 0} (p : X → Bool) (xs : List X) (i : ℕ) (d : X) → i < length xs → p (get_or xs i d) ≡ true →
    ((k : ℕ) → k < i → p (get_or xs k d) ≡ false) →
    without_first p xs ≡ remove xs i
left_at p [] i d within passes fail = absurd (omega arith)
left_at p (x ∷ xs) zero d within passes fail = ap (λ b. cond b xs (x ∷ without_first p xs)) passes
left_at p (x ∷ xs) (suc i) d within passes fail =
    ap (λ b. cond b xs (x ∷ without_first p xs)) (fail 0 (omega arith)) ∙ ap (λ ys. x ∷ ys)
    (left_at p xs i d (omega arith) passes (λ k below. fail (suc k) (omega arith)))

-- what is found at the position
pub found_first : {X : Type 0} (p : X → Bool) (xs : List X) (i : ℕ) (d : X) → position p xs ≡ Some i → find p xs ≡ Some (get_or xs i d)
found_first p xs i d stands = let there = position-Some p xs i d stands in found_at p xs i d there.0 there.1 there.2

pub left_first : {X : Type 0} (p : X → Bool) (xs : List X) (i : ℕ) (d : X) → position p xs ≡ Some i → without_first p xs ≡ remove xs i
left_first p xs i d stands = let there = position-Some p xs i d stands in left_at p xs i d there.0 there.1 there.2

-- nothing is found where there is no position
pub found_none : {X : Type 0} (p : X → Bool) (xs : List X) → position p xs ≡ None → find p xs ≡ None
found_none p xs nowhere = find_at p xs ∙ slice_get_past xs (position_or_len p xs) (grind (arith, common_steps))

-- a list in which nothing is found stays
pub stays : {X : Type 0} (p : X → Bool) (xs : List X) → find p xs ≡ None → without_first p xs ≡ xs
stays p [] none = refl
stays p (x ∷ xs) none = at_test (p x) none (stays p xs)
  where
    at_test : (b : Bool) → cond b (Some x) (find p xs) ≡ None → (find p xs ≡ None → without_first p xs ≡ xs) → cond b xs (x ∷ without_first p xs) ≡ x ∷ xs
    at_test true clash others = cc
    at_test false none others = ap (λ ys. x ∷ ys) (others none)

-- the list without the first is not longer
pub no_longer : {X : Type 0} (p : X → Bool) (xs : List X) → length (without_first p xs) ≤ length xs
no_longer p [] = omega arith
no_longer p (x ∷ xs) = at_test (p x) (no_longer p xs)
  where
    at_test : (b : Bool) → length (without_first p xs) ≤ length xs → length (cond b xs (x ∷ without_first p xs)) ≤ suc (length xs)
    at_test true others = omega arith
    at_test false others = omega arith

pub of_empty : {X : Type 0} (p : X → Bool) (xs : List X) → xs ≡ [] → without_first p xs ≡ []
of_empty p xs empty = ap (without_first p) empty
