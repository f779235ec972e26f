-- Entries whose keys ascend, one place after another.
use Rattle.std.proofs.Common.{◌≡◌, ℕ, zero, suc, ◌<◌, List, [], ◌∷◌, Some, ap, take, arith}
use Rattle.std.specs.List.{AllByRecursion, slice_get}
use Rattle.std.specs.List.Sorted.{IsStrictlySortedBy}
use Rattle.std.specs.Ordering.{nat_cmp}
use Rattle.std.specs.declared.cmp.Ordering.TheVariants.{Less, Equal, Greater}
use Rattle.std.specs.Map.{keys_of}
use Rattle.std.proofs.lemmas.Bool.Decides.{nat_tests}
use Rattle.shelf.specs.Shelved.{value_at}

module _ {V : Type 0} where
  -- the key at a place is above this one
  above : (low : ℕ) (es : List (ℕ × V)) (place : ℕ) (e : ℕ × V) → AllByRecursion (λ (key : ℕ). nat_cmp low key ≡ Less) (keys_of es) →
      slice_get es place ≡ Some e → low < e.0
  above low [] place e all at = absurd (cc)
  above low (x ∷ xs) zero e all at =
      let same : x ≡ e = cc in
      let less : nat_cmp low x.0 ≡ Less = all.0 in
      let key : x.0 ≡ e.0 = ap (λ (p : ℕ × V). p.0) same in
      grind (arith, nat_tests)
  above low (x ∷ xs) (suc place) e all at = above low xs place e all.1 at

  -- the keys before it are lower
  pub lower_before : (es : List (ℕ × V)) (place : ℕ) (e : ℕ × V) → IsStrictlySortedBy nat_cmp (keys_of es) → slice_get es place ≡ Some e →
      AllByRecursion (λ (key : ℕ). key < e.0) (take place (keys_of es))
  unfolding IsStrictlySortedBy
  lower_before [] zero e ascends at = tt
  lower_before [] (suc place) e ascends at = tt
  lower_before (x ∷ xs) zero e ascends at = tt
  lower_before (x ∷ xs) (suc place) e ascends at = (above x.0 xs place e ascends.0 at, lower_before xs place e ascends.1 at)

  -- its value is that of its key
  pub value_in_place : (es : List (ℕ × V)) (place : ℕ) (e : ℕ × V) → IsStrictlySortedBy nat_cmp (keys_of es) → slice_get es place ≡ Some e →
      value_at es e.0 ≡ Some e.1
  unfolding IsStrictlySortedBy
  value_in_place [] place e ascends at = absurd (cc)
  value_in_place (x ∷ xs) zero e ascends at =
      let same : x ≡ e = cc in
      let key : nat_cmp e.0 x.0 ≡ Equal = let keys : x.0 ≡ e.0 = ap (λ (p : ℕ × V). p.0) same in grind (arith, nat_tests) in
      rw key (ap (λ (p : ℕ × V). Some p.1) same)
  value_in_place (x ∷ xs) (suc place) e ascends at =
      let low = above x.0 xs place e ascends.0 at in
      let key : nat_cmp e.0 x.0 ≡ Greater = grind (arith, nat_tests) in
      rw key (value_in_place xs place e ascends.1 at)
