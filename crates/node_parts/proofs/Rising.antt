-- Numbers that rise, and what is among them.
use Rattle.std.proofs.Common.{◌≡◌, ◌⊎◌, ℕ, ◌<◌, List, [], ◌∷◌, refl, sym}
use Rattle.std.proofs.Common.{ap, subst, ◌∙◌, inl, inr, arith}
use Rattle.std.specs.BTreeSet.{insert_key}
use Rattle.std.specs.List.{AllByRecursion}
use Rattle.std.specs.List.Sorted.{IsStrictlySortedBy}
use Rattle.std.specs.Ordering.{nat_cmp, match_ordering}
use Rattle.std.specs.declared.cmp.Ordering.{Ordering}
use Rattle.std.specs.declared.cmp.Ordering.TheVariants.{Less, Equal, Greater}
use Rattle.std.proofs.lemmas.Bool.Decides.{nat_tests}
use Rattle.mc_model.specs.synod.Lists.{In}
use Rattle.node_parts.specs.Rising.{AreRising}

-- ---- numbers that rise

all_above : (x : ℕ) (xs : List ℕ) → AllByRecursion (λ (y : ℕ). nat_cmp x y ≡ Less) xs → AllByRecursion (λ (y : ℕ). x < y) xs
all_above x [] all = tt
all_above x (y ∷ ys) all = (let less : nat_cmp x y ≡ Less = all.0 in grind (arith, nat_tests), all_above x ys all.1)

pub rise_of : (xs : List ℕ) → IsStrictlySortedBy nat_cmp xs → AreRising xs
unfolding IsStrictlySortedBy
rise_of [] ascends = tt
rise_of (x ∷ xs) ascends = (all_above x xs ascends.0, rise_of xs ascends.1)

pub each : (P : ℕ → Type 0) (xs : List ℕ) → AllByRecursion P xs → (x : ℕ) → In x xs → P x
each P [] all x none = absurd none
each P (y ∷ ys) all x (inl same) = subst P (sym same) all.0
each P (y ∷ ys) all x (inr later) = each P ys all.1 x later

above_put : (low x : ℕ) (xs : List ℕ) → low < x → AllByRecursion (λ (y : ℕ). low < y) xs → AllByRecursion (λ (y : ℕ). low < y) (insert_key nat_cmp xs x)
above_put low x [] below all = (below, tt)
above_put low x (y ∷ ys) below all = at_order (nat_cmp x y) (above_put low x ys below all.1)
  where
    at_order : (o : Ordering) → AllByRecursion (λ (z : ℕ). low < z) (insert_key nat_cmp ys x) →
        AllByRecursion (λ (z : ℕ). low < z) (match_ordering o (x ∷ y ∷ ys) (y ∷ ys) (y ∷ insert_key nat_cmp ys x))
    at_order Less rest = (below, all)
    at_order Equal rest = all
    at_order Greater rest = (all.0, rest)

above_lower : (low high : ℕ) (xs : List ℕ) → low < high → AllByRecursion (λ (y : ℕ). high < y) xs → AllByRecursion (λ (y : ℕ). low < y) xs
above_lower low high [] below all = tt
above_lower low high (y ∷ ys) below all = (let more = all.0 in omega (arith, below, more), above_lower low high ys below all.1)

pub rise_put : (x : ℕ) (xs : List ℕ) → AreRising xs → AreRising (insert_key nat_cmp xs x)
rise_put x [] rise = (tt, tt)
rise_put x (y ∷ ys) rise = at_order (nat_cmp x y) refl (rise_put x ys rise.1)
  where
    at_order : (o : Ordering) → nat_cmp x y ≡ o → AreRising (insert_key nat_cmp ys x) →
        AreRising (match_ordering o (x ∷ y ∷ ys) (y ∷ ys) (y ∷ insert_key nat_cmp ys x))
    at_order Less order rest = let below : x < y = grind (arith, nat_tests) in ((below, above_lower x y ys below rise.0), rise)
    at_order Equal order rest = rise
    at_order Greater order rest = let below : y < x = grind (arith, nat_tests) in (above_put y x ys below rise.0, rest)

-- ---- what is in them

pub in_put : (z x : ℕ) (xs : List ℕ) → In z (insert_key nat_cmp xs x) → (z ≡ x) ⊎ In z xs
in_put z x [] (inl same) = inl same
in_put z x [] (inr none) = absurd none
in_put z x (y ∷ ys) among = at_order (nat_cmp x y) (in_put z x ys) among
  where
    at_order : (o : Ordering) → (In z (insert_key nat_cmp ys x) → (z ≡ x) ⊎ In z ys) →
        In z (match_ordering o (x ∷ y ∷ ys) (y ∷ ys) (y ∷ insert_key nat_cmp ys x)) → (z ≡ x) ⊎ In z (y ∷ ys)
    at_order Less rest there = there
    at_order Equal rest there = inr there
    at_order Greater rest (inl same) = inr (inl same)
    at_order Greater rest (inr later) = elim (rest later) [ inl same ↦ inl same | inr other ↦ inr (inr other) ]

pub put_in : (z x : ℕ) (xs : List ℕ) → (z ≡ x) ⊎ In z xs → In z (insert_key nat_cmp xs x)
put_in z x [] (inl same) = inl same
put_in z x [] (inr none) = absurd none
put_in z x (y ∷ ys) among = at_order (nat_cmp x y) refl (put_in z x ys) among
  where
    at_order : (o : Ordering) → nat_cmp x y ≡ o → ((z ≡ x) ⊎ In z ys → In z (insert_key nat_cmp ys x)) → (z ≡ x) ⊎ In z (y ∷ ys) →
        In z (match_ordering o (x ∷ y ∷ ys) (y ∷ ys) (y ∷ insert_key nat_cmp ys x))
    at_order Less order rest there = there
    at_order Equal order rest (inl same) = let equal : x ≡ y = grind (arith, nat_tests) in inl (same ∙ equal)
    at_order Equal order rest (inr there) = there
    at_order Greater order rest (inl same) = inr (rest (inl same))
    at_order Greater order rest (inr (inl same)) = inl same
    at_order Greater order rest (inr (inr later)) = inr (rest (inr later))

-- ---- one that is among them is put

pub put_again : (ids : List ℕ) (id : ℕ) → AreRising ids → In id ids → insert_key nat_cmp ids id ≡ ids
put_again [] id rise none = absurd none
put_again (x ∷ xs) id rise (inl same) = let equal : nat_cmp id x ≡ Equal = grind (arith, nat_tests) in rw equal refl
put_again (x ∷ xs) id rise (inr later) =
    let above = each (λ (y : ℕ). x < y) xs rise.0 id later in
    let greater : nat_cmp id x ≡ Greater = grind (arith, nat_tests) in
    rw greater (ap (λ (ys : List ℕ). x ∷ ys) (put_again xs id rise.1 later))
