-- What a binary search finds among entries whose keys ascend.
use Rattle.std.proofs.Common.{◌≡◌, ℕ, ◌<◌, ◌≤◌, List, length, get_or, [], ◌∷◌, zero, suc, Result, Ok, Err, refl, subst, sym, ap, ◌∙◌, arith}
use Rattle.std.specs.List.Sorted.{IsSearchInRange, IsBinarySearchResult, IsNonDecreasingBy, IsStrictlySortedBy}
use Rattle.std.specs.Ordering.{nat_cmp, ordering_index}
use Rattle.std.specs.Map.{keys_of}
use Rattle.std.proofs.lemmas.Cmp.{ranked}
use Rattle.std.proofs.lemmas.List.{get_or-map, length-map}
use Rattle.std.proofs.lemmas.Simd.{map-map}
use Rattle.std.specs.Global.{Box}
use Rattle.std.proofs.lemmas.Map.Keys.{below_from_sorted}
use Rattle.std.proofs.lemmas.Map.Entries.{length-keys_of}
use Rattle.std.proofs.lemmas.Bool.Decides.{nat_tests}
use Rattle.shelf.specs.Places.{IsFoundPlace, entries_of, entry_of}

module _ {V : Type 0} (es : List (ℕ × V)) (ascends : IsStrictlySortedBy nat_cmp (keys_of es)) (key : ℕ) where
  key_at : (i : ℕ) (d : ℕ × V) → i < length es → get_or (keys_of es) i d.0 ≡ (get_or es i d).0
  key_at i d within = get_or-map (λ e. e.0) es i d d.0 within

  rises : (i j : ℕ) (d : ℕ × V) → i < j → j < length es → (get_or es i d).0 < (get_or es j d).0
  rises i j d below within =
      let length_is = length-keys_of es in
      let one = key_at i d (omega arith) in
      let other = key_at j d within in
      let less = below_from_sorted (keys_of es) i j d.0 ascends below (omega arith) in
      omega (arith, one, other, less)

  never_falls : (i j : ℕ) (d : ℕ × V) → i ≤ j → j < length es → (get_or es i d).0 ≤ (get_or es j d).0
  never_falls i j d from within = grind (arith, rises i j d, λ (same : i ≡ j). ap (λ k. (get_or es k d).0) same)

  comparisons_rise : IsNonDecreasingBy (λ e. ordering_index (nat_cmp e.0 key)) es
  comparisons_rise i j d from within =
      let keys : (get_or es i d).0 ≤ (get_or es j d).0 = never_falls i j d from within in
      grind (arith, nat_tests)

  pub searched : (r : Result ℕ ℕ) → IsSearchInRange r (length es) → IsBinarySearchResult (λ e. nat_cmp e.0 key) es r → IsFoundPlace es key r
  searched (Ok place) within equal =
      let here : (d : ℕ × V) → (get_or es place d).0 ≡ key = λ d. ranked _ key _ (sym (equal d)) in
      record {
        within = within;
        here = here;
        before = λ k d below. omega (arith, rises k place d below within, here d);
      }
  searched (Err place) within parted =
      record {
        within = within;
        before = λ k d below. ranked _ key _ (sym ((parted comparisons_rise).0 k d (omega arith) below));
        behind = λ k d from below. ranked _ key _ (sym ((parted comparisons_rise).1 k d from below));
      }

-- an element, and how contracts see it
seen_at : {V : Type 0} (xs : List (ℕ × Box V)) (i : ℕ) (d : ℕ × V) → i < length xs →
    (x : ℕ × Box V) × ((e : ℕ × Box V) → get_or xs i e ≡ x) × (get_or (entries_of xs) i d ≡ entry_of x)
seen_at [] i d within = absurd (omega arith)
seen_at (x ∷ xs) zero d within = (x, (λ e. refl), refl)
seen_at (x ∷ xs) (suc i) d within = seen_at xs i d (omega arith)

module _ {V : Type 0} (xs : List (ℕ × Box V)) (key : ℕ) where
  key_seen : (i : ℕ) (d : ℕ × V) → i < length xs → (x : ℕ × Box V) × (get_or xs i x ≡ x) × ((get_or (entries_of xs) i d).0 ≡ x.0)
  key_seen i d within = let seen = seen_at xs i d within in (seen.0, seen.1 seen.0, ap (λ e. e.0) seen.2)

  seen_found : (r : Result ℕ ℕ) → IsFoundPlace xs key r → IsFoundPlace (entries_of xs) key r
  seen_found (Ok place) at =
      let length_is = length-map xs entry_of in
      record {
        within = omega (arith, at.within);
        here = λ d. let seen = key_seen place d at.within in seen.2 ∙ sym (ap (λ e. e.0) seen.1) ∙ at.here seen.0;
        before = λ k d below. let seen = key_seen k d (omega (arith, at.within)) in
            subst (λ n. n < key) (ap (λ e. e.0) seen.1 ∙ sym seen.2) (at.before k seen.0 below);
      }
  seen_found (Err place) at =
      let length_is = length-map xs entry_of in
      record {
        within = omega (arith, at.within);
        before = λ k d below. let seen = key_seen k d (omega (arith, at.within)) in
            subst (λ n. n < key) (ap (λ e. e.0) seen.1 ∙ sym seen.2) (at.before k seen.0 below);
        behind = λ k d from below. let seen = key_seen k d (omega (arith, length_is)) in
            subst (λ n. key < n) (ap (λ e. e.0) seen.1 ∙ sym seen.2) (at.behind k seen.0 from (omega (arith, length_is)));
      }

  keys_seen : keys_of (entries_of xs) ≡ keys_of xs
  keys_seen = map-map (λ e. e.0) entry_of xs

  -- if the values stand in boxes
  pub searched_in : IsStrictlySortedBy nat_cmp (keys_of (entries_of xs)) → (r : Result ℕ ℕ) → IsSearchInRange r (length xs) →
      IsBinarySearchResult (λ e. nat_cmp e.0 key) xs r → IsFoundPlace (entries_of xs) key r
  searched_in ascends r within found = seen_found r (searched xs (subst (IsStrictlySortedBy nat_cmp) keys_seen ascends) key r within found)
