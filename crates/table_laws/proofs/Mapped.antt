-- Lists of entries, all of which change, and their keys.
use Rattle.std.proofs.Common.{◌≡◌, ◌⊎◌, ℕ, ◌<◌, Bool, true, false, cond, List, [], ◌∷◌, map, Some, None, refl, sym, ap, subst, inl, inr, arith}
use Rattle.std.specs.List.{AllByRecursion}
use Rattle.std.specs.List.Sorted.{IsStrictlySortedBy}
use Rattle.std.specs.Map.{keys_of, lookup}
use Rattle.std.specs.Option.{unwrap_or}
use Rattle.std.specs.Ordering.{is_eq, nat_cmp}
use Rattle.std.specs.declared.cmp.Ordering.{Ordering}
use Rattle.std.specs.declared.cmp.Ordering.TheVariants.{Less, Equal, Greater}
use Rattle.std.specs.BTreeMap.{is_at}
use Rattle.std.specs.BTreeSet.{insert_key}
use Rattle.std.proofs.lemmas.Bool.Decides.{nat_tests}
use Rattle.mc_model.specs.synod.Lists.{In}
use Rattle.table_laws.proofs.Ruling.{AreAmong, AreDistinct, IsNotIn}

module _ {V : Type 0} where
  pub keys_mapped : (f : V → V) (es : List (ℕ × V)) → keys_of (map (λ e. (e.0, f e.1)) es) ≡ keys_of es
  keys_mapped f [] = refl
  keys_mapped f (e ∷ es) = ap (λ (ids : List ℕ). e.0 ∷ ids) (keys_mapped f es)

  pub at_mapped : (f : V → V) (default : V) → f default ≡ default → (test : ℕ → Bool) (es : List (ℕ × V)) →
      unwrap_or (lookup test (map (λ e. (e.0, f e.1)) es)) default ≡ f (unwrap_or (lookup test es) default)
  at_mapped f default same test [] = sym same
  at_mapped f default same test (e ∷ es) = by_test (test e.0) (at_mapped f default same test es)
    where
      by_test : (found : Bool) → unwrap_or (lookup test (map (λ e. (e.0, f e.1)) es)) default ≡ f (unwrap_or (lookup test es) default) →
          unwrap_or (cond found (Some (f e.1)) (lookup test (map (λ e. (e.0, f e.1)) es))) default ≡ f
          (unwrap_or (cond found (Some e.1) (lookup test es)) default)
      by_test true rest = refl
      by_test false rest = rest

  -- there is nothing under an id that is not among the keys
  pub among_keys : (id : ℕ) (es : List (ℕ × V)) → (lookup (is_at (nat_cmp id)) es ≡ None) ⊎ In id (keys_of es)
  among_keys id [] = inl refl
  among_keys id (e ∷ es) = by_order (nat_cmp id e.0) refl (among_keys id es)
    where
      by_order : (o : Ordering) → nat_cmp id e.0 ≡ o → (lookup (is_at (nat_cmp id)) es ≡ None) ⊎ In id (keys_of es) →
          (cond (is_eq o) (Some e.1) (lookup (is_at (nat_cmp id)) es) ≡ None) ⊎ In id (e.0 ∷ keys_of es)
      by_order Equal is rest = inr (inl (grind (arith, nat_tests)))
      by_order Less is (inl none) = inl none
      by_order Less is (inr among) = inr (inr among)
      by_order Greater is (inl none) = inl none
      by_order Greater is (inr among) = inr (inr among)

-- ---- keys that ascend

not_above : (id : ℕ) (ids : List ℕ) → AllByRecursion (λ other. nat_cmp id other ≡ Less) ids → IsNotIn id ids
not_above id [] above = tt
not_above id (other ∷ ids) above =
    let less : nat_cmp id other ≡ Less = above.0 in
    let below : id < other = grind (arith, nat_tests) in
    ((λ same. omega (arith, same, below)), not_above id ids above.1)

pub distinct_of : (ids : List ℕ) → IsStrictlySortedBy nat_cmp ids → AreDistinct ids
unfolding IsStrictlySortedBy
distinct_of [] ascends = tt
distinct_of (id ∷ ids) ascends = (not_above id ids ascends.0, distinct_of ids ascends.1)

less_among : (id other : ℕ) (ids : List ℕ) → AllByRecursion (λ x. nat_cmp id x ≡ Less) ids → In other ids → nat_cmp id other ≡ Less
less_among id other [] above is_in = absurd is_in
less_among id other (first ∷ ids) above (inl same) = subst (λ (x : ℕ). nat_cmp id x ≡ Less) (sym same) above.0
less_among id other (first ∷ ids) above (inr among) = less_among id other ids above.1 among

pub insert_listed : (id : ℕ) (ids : List ℕ) → IsStrictlySortedBy nat_cmp ids → In id ids → insert_key nat_cmp ids id ≡ ids
unfolding IsStrictlySortedBy
insert_listed id [] ascends is_in = absurd is_in
insert_listed id (first ∷ ids) ascends (inl same) = let equal : nat_cmp id first ≡ Equal = grind (arith, nat_tests) in rw equal refl
insert_listed id (first ∷ ids) ascends (inr among) =
    let less : nat_cmp first id ≡ Less = less_among first id ids ascends.0 among in
    let greater : nat_cmp id first ≡ Greater = grind (arith, nat_tests) in
    rw greater (ap (λ (xs : List ℕ). first ∷ xs) (insert_listed id ids ascends.1 among))

among_all : (keys ids : List ℕ) → ((id : ℕ) → In id ids → insert_key nat_cmp keys id ≡ keys) → AreAmong keys ids
among_all keys [] each = tt
among_all keys (id ∷ ids) each = (each id (inl refl), among_all keys ids (λ other is_in. each other (inr is_in)))

pub among_of : (ids : List ℕ) → IsStrictlySortedBy nat_cmp ids → AreAmong ids ids
among_of ids ascends = among_all ids ids (λ id is_in. insert_listed id ids ascends is_in)
