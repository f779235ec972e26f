-- Members of what a filter leaves.
use Rattle.std.proofs.Common.{◌≡◌, Bool, true, false, cond, List, [], ◌∷◌, refl, sym, ap, subst, ◌∙◌, inl, inr}
use Rattle.std.specs.Prelude.{filter}
use Rattle.mc_model.specs.synod.Lists.{In}

-- who passes a test is among those that a filter leaves
pub filter_in : {A : Type 0} (test : A → Bool) (xs : List A) (x : A) → In x xs → test x ≡ true → In x (filter test xs)
filter_in test [] x none passes = none
filter_in test (y ∷ xs) x (inl same) passes =
    subst (λ (b : Bool). In x (cond b (y ∷ filter test xs) (filter test xs))) (sym (ap test (sym same) ∙ passes)) (inl same)
filter_in test (y ∷ xs) x (inr later) passes = by_test (test y) (filter_in test xs x later passes)
  where
    by_test : (b : Bool) → In x (filter test xs) → In x (cond b (y ∷ filter test xs) (filter test xs))
    by_test true is_in = inr is_in
    by_test false is_in = is_in

pub filter_passes : {A : Type 0} (test : A → Bool) (xs : List A) (x : A) → In x (filter test xs) → test x ≡ true
filter_passes test [] x none = absurd none
filter_passes test (y ∷ xs) x is_in = by_test (test y) refl (filter_passes test xs x) is_in
  where
    by_test : (b : Bool) → test y ≡ b → (In x (filter test xs) → test x ≡ true) → In x (cond b (y ∷ filter test xs) (filter test xs)) → test x ≡ true
    by_test true passes rest (inl same) = ap test same ∙ passes
    by_test true passes rest (inr later) = rest later
    by_test false fails rest later = rest later
