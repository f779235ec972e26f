-- Two values that are put under different keys.
use Rattle.std.proofs.Common.{◌≡◌, ℕ, List, [], ◌∷◌, refl, sym, ap, ◌∙◌, arith}
use Rattle.std.specs.Ordering.{nat_cmp}
use Rattle.std.specs.declared.cmp.Ordering.{Ordering}
use Rattle.std.specs.declared.cmp.Ordering.TheVariants.{Less, Equal, Greater}
use Rattle.std.proofs.lemmas.Bool.Decides.{nat_tests}
use Rattle.shelf.specs.Shelved.{with_value}

module _ {V : Type 0} where
  -- it does not matter which is put first
  pub put_apart : (es : List (ℕ × V)) (one other : ℕ) (m n : V) → (one ≡ other → ⊥) →
      with_value (with_value es one m) other n ≡ with_value (with_value es other n) one m
  put_apart [] one other m n apart = by_order (nat_cmp one other) refl
    where
      by_order : (o : Ordering) → nat_cmp one other ≡ o → with_value ((one, m) ∷ []) other n ≡ with_value ((other, n) ∷ []) one m
      by_order Less is = let back : nat_cmp other one ≡ Greater = grind (arith, nat_tests) in rw (is, back) refl
      by_order Equal is = absurd (apart (grind (arith, nat_tests)))
      by_order Greater is = let back : nat_cmp other one ≡ Less = grind (arith, nat_tests) in rw (is, back) refl
  put_apart (e ∷ es) one other m n apart = by_orders (nat_cmp one e.0) refl (nat_cmp other e.0) refl (put_apart es one other m n apart)
    where
      both_below : nat_cmp one e.0 ≡ Less → nat_cmp other e.0 ≡ Less → (o : Ordering) → nat_cmp one other ≡ o →
          with_value ((one, m) ∷ e ∷ es) other n ≡ with_value ((other, n) ∷ e ∷ es) one m
      both_below first second Less is = let back : nat_cmp other one ≡ Greater = grind (arith, nat_tests) in rw (is, back, second) refl
      both_below first second Equal is = absurd (apart (grind (arith, nat_tests)))
      both_below first second Greater is = let back : nat_cmp other one ≡ Less = grind (arith, nat_tests) in rw (is, back, first) refl

      by_orders : (a : Ordering) → nat_cmp one e.0 ≡ a → (b : Ordering) → nat_cmp other e.0 ≡ b →
          with_value (with_value es one m) other n ≡ with_value (with_value es other n) one m →
          with_value (with_value (e ∷ es) one m) other n ≡ with_value (with_value (e ∷ es) other n) one m
      by_orders Less first Less second rest =
          let one_first : with_value (e ∷ es) one m ≡ (one, m) ∷ e ∷ es = rw first refl in
          let other_first : with_value (e ∷ es) other n ≡ (other, n) ∷ e ∷ es = rw second refl in
          ap (λ (to : List (ℕ × V)). with_value to other n) one_first
          ∙ both_below first second (nat_cmp one other) refl
          ∙ sym (ap (λ (to : List (ℕ × V)). with_value to one m) other_first)
      by_orders Less first Equal second rest =
          let same : other ≡ e.0 = grind (arith, nat_tests) in
          let back : nat_cmp other one ≡ Greater = grind (arith, nat_tests) in
          rw (first, second, back, first) refl
      by_orders Less first Greater second rest =
          let back : nat_cmp other one ≡ Greater = grind (arith, nat_tests) in
          rw (first, second, back, first) refl
      by_orders Equal first Less second rest =
          let back : nat_cmp one other ≡ Greater = grind (arith, nat_tests) in
          rw (first, second, back, first) refl
      by_orders Equal first Equal second rest = absurd (apart (grind (arith, nat_tests)))
      by_orders Equal first Greater second rest = rw (first, second, first) refl
      by_orders Greater first Less second rest =
          let back : nat_cmp one other ≡ Greater = grind (arith, nat_tests) in
          rw (first, second, back, first) refl
      by_orders Greater first Equal second rest = rw (first, second, first) refl
      by_orders Greater first Greater second rest = rw (first, second, first) (ap (λ others. e ∷ others) rest)
