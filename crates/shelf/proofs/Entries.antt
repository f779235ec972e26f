-- What an edit of entries does, by the place at which a key stands or would go.
use Rattle.std.proofs.Common.{◌≡◌, ℕ, zero, suc, ◌<◌, List, [], ◌∷◌, length, get_or, set, Some, None, refl, sym, ap, ◌∙◌, arith}
use Rattle.std.specs.List.{insert, AllByRecursion}
use Rattle.std.specs.List.Sorted.{IsStrictlySortedBy}
use Rattle.std.specs.Ordering.{nat_cmp, match_ordering}
use Rattle.std.specs.declared.cmp.Ordering.{Ordering}
use Rattle.std.specs.declared.cmp.Ordering.TheVariants.{Less, Equal, Greater}
use Rattle.std.specs.Map.{keys_of}
use Rattle.std.proofs.lemmas.Bool.Decides.{nat_tests}
use Rattle.shelf.specs.Shelved.{value_at, with_value}
use Rattle.std.specs.Global.{Box}
use Rattle.std.specs.Box.{box_value}
use Rattle.std.proofs.lemmas.List.{get_or-map, map-set}
use Rattle.std.proofs.lemmas.List.{length-map}
use Rattle.shelf.specs.Places.{StandsAt, IsGapAt, entry_of, entries_of}

module _ {V : Type 0} where
  -- in the tail a place is one lower
  tail_stands : (e : ℕ × V) (es : List (ℕ × V)) (key place : ℕ) → StandsAt (e ∷ es) key (suc place) → StandsAt es key place
  tail_stands e es key place at = record {
    within = omega (arith, at.within);
    here = λ d. at.here d;
    before = λ k d below. at.before (suc k) d (omega arith);
  }

  tail_gap : (e : ℕ × V) (es : List (ℕ × V)) (key place : ℕ) → IsGapAt (e ∷ es) key (suc place) → IsGapAt es key place
  tail_gap e es key place at = record {
    within = omega (arith, at.within);
    before = λ k d below. at.before (suc k) d (omega arith);
    behind = λ k d from below. at.behind (suc k) d (omega arith) (omega arith);
  }

  -- a value in the place of that of its key
  pub with_value_there : (es : List (ℕ × V)) (key place : ℕ) (old : ℕ × V) (value : V) → StandsAt es key place →
      old ≡ get_or es place old → with_value es key value ≡ set es place (old.0, value)
  with_value_there [] key place old value at is = absurd (omega (arith, at.within))
  with_value_there (e ∷ es) key zero old value at is =
      let same : e.0 ≡ key = at.here e in
      let own : old.0 ≡ e.0 = ap (λ x. x.0) is in
      let equal : nat_cmp key e.0 ≡ Equal = grind (arith, nat_tests) in
      rw (equal, own) refl
  with_value_there (e ∷ es) key (suc place) old value at is =
      let below : e.0 < key = at.before 0 e (omega arith) in
      let greater : nat_cmp key e.0 ≡ Greater = grind (arith, nat_tests) in
      rw greater (ap (λ rest. e ∷ rest) (with_value_there es key place old value (tail_stands e es key place at) is))

  -- or a new entry in the gap
  pub with_value_between : (es : List (ℕ × V)) (key place : ℕ) (value : V) → IsGapAt es key place →
      with_value es key value ≡ insert es place (key, value)
  with_value_between [] key zero value at = refl
  with_value_between [] key (suc place) value at = absurd (omega (arith, at.within))
  with_value_between (e ∷ es) key zero value at =
      let below : key < e.0 = at.behind 0 e (omega arith) (omega arith) in
      let less : nat_cmp key e.0 ≡ Less = grind (arith, nat_tests) in
      rw less refl
  with_value_between (e ∷ es) key (suc place) value at =
      let below : e.0 < key = at.before 0 e (omega arith) in
      let greater : nat_cmp key e.0 ≡ Greater = grind (arith, nat_tests) in
      rw greater (ap (λ rest. e ∷ rest) (with_value_between es key place value (tail_gap e es key place at)))

  -- the value is found there
  pub found_there : (es : List (ℕ × V)) (key place : ℕ) (d : ℕ × V) → StandsAt es key place → value_at es key ≡ Some (get_or es place d).1
  found_there [] key place d at = absurd (omega (arith, at.within))
  found_there (e ∷ es) key zero d at =
      let same : e.0 ≡ key = at.here e in
      let equal : nat_cmp key e.0 ≡ Equal = grind (arith, nat_tests) in
      rw equal refl
  found_there (e ∷ es) key (suc place) d at =
      let below : e.0 < key = at.before 0 e (omega arith) in
      let greater : nat_cmp key e.0 ≡ Greater = grind (arith, nat_tests) in
      rw greater (found_there es key place d (tail_stands e es key place at))

  -- and none is in a gap
  pub none_between : (es : List (ℕ × V)) (key place : ℕ) → IsGapAt es key place → value_at es key ≡ None
  none_between [] key place at = refl
  none_between (e ∷ es) key zero at =
      let below : key < e.0 = at.behind 0 e (omega arith) (omega arith) in
      let less : nat_cmp key e.0 ≡ Less = grind (arith, nat_tests) in
      rw less (none_between es key zero (record {
        within = omega arith;
        before = λ k d lower. absurd (omega arith);
        behind =
            λ k d from lower. at.behind (suc k) d (omega arith) (omega arith);
      }))
  none_between (e ∷ es) key (suc place) at =
      let below : e.0 < key = at.before 0 e (omega arith) in
      let greater : nat_cmp key e.0 ≡ Greater = grind (arith, nat_tests) in
      rw greater (none_between es key place (tail_gap e es key place at))

  -- the keys still ascend
  above_all : (low : ℕ) (es : List (ℕ × V)) (key : ℕ) (value : V) → nat_cmp low key ≡ Less →
      AllByRecursion (λ y. nat_cmp low y ≡ Less) (keys_of es) → AllByRecursion (λ y. nat_cmp low y ≡ Less) (keys_of (with_value es key value))
  above_all low [] key value above all = (above, tt)
  above_all low (e ∷ es) key value above all = at_order (nat_cmp key e.0) (above_all low es key value above all.1)
    where
      at_order : (o : Ordering) → AllByRecursion (λ y. nat_cmp low y ≡ Less) (keys_of (with_value es key value)) →
          AllByRecursion (λ y. nat_cmp low y ≡ Less) (keys_of (match_ordering o ((key, value) ∷ e ∷ es) ((e.0, value) ∷ es) (e ∷ with_value es key value)))
      at_order Less rest = (above, all)
      at_order Equal rest = all
      at_order Greater rest = (all.0, rest)

  pub still_ascends : (es : List (ℕ × V)) (key : ℕ) (value : V) → IsStrictlySortedBy nat_cmp (keys_of es) →
      IsStrictlySortedBy nat_cmp (keys_of (with_value es key value))
  unfolding IsStrictlySortedBy
  still_ascends [] key value ascends = (tt, tt)
  still_ascends (e ∷ es) key value ascends = at_order (nat_cmp key e.0) refl (still_ascends es key value ascends.1)
    where
      below_rest : (low : ℕ) (rest : List (ℕ × V)) → nat_cmp key low ≡ Less → AllByRecursion (λ y. nat_cmp low y ≡ Less) (keys_of rest) →
          AllByRecursion (λ y. nat_cmp key y ≡ Less) (keys_of rest)
      below_rest low [] less all = tt
      below_rest low (x ∷ xs) less all =
          let first : nat_cmp low x.0 ≡ Less = all.0 in
          let under : nat_cmp key x.0 ≡ Less = grind (arith, nat_tests) in
          (under, below_rest low xs less all.1)

      at_order : (o : Ordering) → nat_cmp key e.0 ≡ o → IsStrictlySortedBy nat_cmp (keys_of (with_value es key value)) →
          IsStrictlySortedBy nat_cmp (keys_of (match_ordering o ((key, value) ∷ e ∷ es) ((e.0, value) ∷ es) (e ∷ with_value es key value)))
      at_order Less is rest = ((is, below_rest e.0 es is ascends.0), ascends)
      at_order Equal is rest = ascends
      at_order Greater is rest =
          let above : nat_cmp e.0 key ≡ Less = grind (arith, nat_tests) in
          (above_all e.0 es key value above ascends.0, rest)

  -- no key
  pub none_ascends : (es : List (ℕ × V)) → es ≡ [] → IsStrictlySortedBy nat_cmp (keys_of es)
  unfolding IsStrictlySortedBy
  none_ascends es none = rw none tt

  -- ---- with the values in boxes
  pub put_there : (xs : List (ℕ × Box V)) (key place : ℕ) (old : ℕ × Box V) (value : Box V) → StandsAt (entries_of xs) key place →
      old ≡ get_or xs place old → entries_of (set xs place (old.0, value)) ≡ with_value (entries_of xs) key (box_value value)
  put_there xs key place old value at is =
      let within : place < length xs = omega (arith, at.within, length-map xs entry_of) in
      let read : entry_of old ≡ get_or (entries_of xs) place (entry_of old) = ap entry_of is ∙ sym (get_or-map entry_of xs place old (entry_of old) within) in
      map-set entry_of xs place (old.0, value) ∙ sym (with_value_there (entries_of xs) key place (entry_of old) (box_value value) at read)

  map-insert : (xs : List (ℕ × Box V)) (place : ℕ) (x : ℕ × Box V) → entries_of (insert xs place x) ≡ insert (entries_of xs) place (entry_of x)
  map-insert [] zero x = refl
  map-insert [] (suc place) x = refl
  map-insert (e ∷ es) zero x = refl
  map-insert (e ∷ es) (suc place) x = ap (λ rest. entry_of e ∷ rest) (map-insert es place x)

  pub put_between : (xs : List (ℕ × Box V)) (key place : ℕ) (value : Box V) → IsGapAt (entries_of xs) key place →
      entries_of (insert xs place (key, value)) ≡ with_value (entries_of xs) key (box_value value)
  put_between xs key place value at =
      map-insert xs place (key, value) ∙ sym (with_value_between (entries_of xs) key place (box_value value) at)

  pub value_there : (xs : List (ℕ × Box V)) (key place : ℕ) (read : ℕ × Box V) → StandsAt (entries_of xs) key place →
      read ≡ get_or xs place read → value_at (entries_of xs) key ≡ Some (box_value read.1)
  value_there xs key place read at is =
      let within : place < length xs = omega (arith, at.within, length-map xs entry_of) in
      found_there (entries_of xs) key place (entry_of read) at
      ∙ ap (λ e. Some e.1) (get_or-map entry_of xs place read (entry_of read) within ∙ sym (ap entry_of is))
