-- The least id from a number on is found one request after another.
use Rattle.std.proofs.Common.{◌≡◌, ◌⊎◌, ℕ, ◌≤◌, Bool, true, false, List, [], ◌∷◌, Option, Some, None, refl, inl, inr, arith}
use Rattle.std.specs.Prelude.{nat_le, nat_lt, if◌then◌else◌}
use Rattle.std.proofs.lemmas.Bool.Decides.{nat_tests}
use Rattle.mc_model.specs.synod.Lists.{In}
use Rattle.node_model.specs.Kept.{Held}
use Rattle.node_model.specs.Requests.{id_of}
use Rattle.waiting_requests.specs.Numbers.{IsLeastFrom, ids_in, least_of, lesser_from}

-- of other numbers that are the same it is the least, too
same_numbers : (from : ℕ) (IsOne IsOther : ℕ → Type 0) → ((id : ℕ) → IsOne id → IsOther id) → ((id : ℕ) → IsOther id → IsOne id) → (least : Option ℕ) →
    IsLeastFrom from IsOne least → IsLeastFrom from IsOther least
same_numbers from IsOne IsOther there back None is = λ id other. is id (back id other)
same_numbers from IsOne IsOther there back (Some least) is = (there least is.0, (is.1.0, λ id other above. is.1.1 id (back id other) above))

-- one number more
one_more : (from id : ℕ) (IsOne : ℕ → Type 0) (least : Option ℕ) → IsLeastFrom from IsOne least →
    IsLeastFrom from (λ other. IsOne other ⊎ (other ≡ id)) (lesser_from from id least)
one_more from id IsOne None is = by_test (nat_lt id from) refl
  where
    by_test : (test : Bool) → nat_lt id from ≡ test → IsLeastFrom from (λ other. IsOne other ⊎ (other ≡ id)) (if test then None else Some id)
    by_test true below = λ other among. elim among [ inl one ↦ is other one | inr same ↦ grind (arith, nat_tests) ]
    by_test false above = (
      inr refl,
      (
        grind (arith, nat_tests),
        λ other among from_on. elim among [
          | inl one ↦ let lower = is other one in absurd (omega (arith, lower, from_on))
          | inr same ↦ omega (arith, same)
        ],
      ),
    )
one_more from id IsOne (Some least) is = by_test (nat_lt id from) refl
  where
    by_order : (test : Bool) → nat_le least id ≡ test → from ≤ id →
        IsLeastFrom from (λ other. IsOne other ⊎ (other ≡ id)) (if test then Some least else Some id)
    by_order true lower from_on = (
      inl is.0,
      (
        is.1.0,
        λ other among above. elim among [
          | inl one ↦ is.1.1 other one above
          | inr same ↦ grind (arith, nat_tests)
        ],
      ),
    )
    by_order false higher from_on = (
      inr refl,
      (
        from_on,
        λ other among above. elim among [
          | inl one ↦ let least_is = is.1.1 other one above in grind (arith, nat_tests)
          | inr same ↦ omega (arith, same)
        ],
      ),
    )

    by_test : (test : Bool) → nat_lt id from ≡ test →
        IsLeastFrom from (λ other. IsOne other ⊎ (other ≡ id)) (if test then Some least else (if nat_le least id then Some least else Some id))
    by_test true below = (
      inl is.0,
      (
        is.1.0,
        λ other among above. elim among [
          | inl one ↦ is.1.1 other one above
          | inr same ↦ absurd (grind (arith, nat_tests))
        ],
      ),
    )
    by_test false above = by_order (nat_le least id) refl (grind (arith, nat_tests))

all_more : (from : ℕ) (IsOne : ℕ → Type 0) (held : List Held) (least : Option ℕ) → IsLeastFrom from IsOne least →
    IsLeastFrom from (λ other. IsOne other ⊎ In other (ids_in held)) (least_of from held least)
all_more from IsOne [] least is =
    same_numbers from IsOne (λ other. IsOne other ⊎ ⊥) (λ id one. inl one) (λ id either. elim either [ inl one ↦ one | inr none ↦ absurd none ]) least is
all_more from IsOne (h ∷ others) least is =
    same_numbers from (λ other. (IsOne other ⊎ (other ≡ id_of h)) ⊎ In other (ids_in others)) (λ other. IsOne other ⊎ In other (ids_in (h ∷ others)))
    (λ id either. elim either [ inl front ↦ elim front [ inl one ↦ inl one | inr same ↦ inr (inl same) ] | inr later ↦ inr (inr later) ])
    (λ id either. elim either [ inl one ↦ inl (inl one) | inr among ↦ elim among [ inl same ↦ inl (inr same) | inr later ↦ inr later ] ])
    (least_of from others (lesser_from from (id_of h) least))
    (all_more from (λ other. IsOne other ⊎ (other ≡ id_of h)) others (lesser_from from (id_of h) least) (one_more from (id_of h) IsOne least is))

pub least_is : (from : ℕ) (held : List Held) → IsLeastFrom from (λ id. In id (ids_in held)) (least_of from held None)
least_is from held =
    same_numbers from (λ other. ⊥ ⊎ In other (ids_in held)) (λ id. In id (ids_in held))
    (λ id either. elim either [ inl none ↦ absurd none | inr among ↦ among ]) (λ id among. inr among)
    (least_of from held None) (all_more from (λ id. ⊥) held None (λ id none. absurd none))
