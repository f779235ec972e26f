-- The entry of a key lies in the part of the key.
use Rattle.std.proofs.Common.{◌≡◌, ℕ, zero, suc, ◌<◌, List, [], ◌∷◌, ◌++◌, length, get_or, set, None, refl, ap, arith}
use Rattle.std.specs.List.{AllByRecursion}
use Rattle.std.specs.List.Sorted.{IsStrictlySortedBy}
use Rattle.std.specs.Ordering.{nat_cmp, match_ordering}
use Rattle.std.specs.declared.cmp.Ordering.{Ordering}
use Rattle.std.specs.declared.cmp.Ordering.TheVariants.{Less, Equal, Greater}
use Rattle.std.specs.Map.{keys_of}
use Rattle.std.proofs.lemmas.Bool.Decides.{nat_tests}
use Rattle.std.proofs.lemmas.List.{map-append}
use Rattle.shelf.specs.Shelved.{value_at, with_value}
use Rattle.shelf.specs.Parted.{LieFrom, joined, part_of}
use Rattle.shelf.proofs.Parting.{changed_in, lie_at, lie_set, read_in}

-- a part of keys that ascend ascends
front_ascends : (xs ys : List ℕ) → IsStrictlySortedBy nat_cmp (xs ++ ys) → IsStrictlySortedBy nat_cmp xs
unfolding IsStrictlySortedBy
front_ascends [] ys ascends = tt
front_ascends (x ∷ xs) ys ascends = (under xs ascends.0, front_ascends xs ys ascends.1)
  where
    under : (zs : List ℕ) → AllByRecursion (λ y. nat_cmp x y ≡ Less) (zs ++ ys) → AllByRecursion (λ y. nat_cmp x y ≡ Less) zs
    under [] all = tt
    under (z ∷ zs) all = (all.0, under zs all.1)

rest_ascends : (xs ys : List ℕ) → IsStrictlySortedBy nat_cmp (xs ++ ys) → IsStrictlySortedBy nat_cmp ys
unfolding IsStrictlySortedBy
rest_ascends [] ys ascends = ascends
rest_ascends (x ∷ xs) ys ascends = rest_ascends xs ys ascends.1

none_rises : IsStrictlySortedBy nat_cmp []
unfolding IsStrictlySortedBy
none_rises = tt

module _ {V : Type 0} where
  pub part_ascends : (lists : List (List (ℕ × V))) (k : ℕ) → IsStrictlySortedBy nat_cmp (keys_of (joined lists)) →
      IsStrictlySortedBy nat_cmp (keys_of (get_or lists k []))
  part_ascends [] k ascends = none_rises
  part_ascends (list ∷ lists) zero ascends =
      front_ascends (keys_of list) (keys_of (joined lists)) (rw (← map-append (λ (e : ℕ × V). e.0) list (joined lists)) ascends)
  part_ascends (list ∷ lists) (suc k) ascends =
      part_ascends lists k (rest_ascends (keys_of list) (keys_of (joined lists)) (rw (← map-append (λ (e : ℕ × V). e.0) list (joined lists)) ascends))

  -- ---- a look-up

  none_higher : (key : ℕ) (ys : List (ℕ × V)) → AllByRecursion (λ e. key < e.0) ys → value_at ys key ≡ None
  none_higher key [] all = refl
  none_higher key (y ∷ ys) all = let above : key < y.0 = all.0 in let less : nat_cmp key y.0 ≡ Less = grind (arith, nat_tests) in rw less (none_higher key ys all.1)

  value_front : (key : ℕ) (xs ys : List (ℕ × V)) → AllByRecursion (λ e. key < e.0) ys → value_at (xs ++ ys) key ≡ value_at xs key
  value_front key [] ys all = none_higher key ys all
  value_front key (x ∷ xs) ys all = by_order (value_front key xs ys all) (nat_cmp key x.0) refl
    where
      by_order : value_at (xs ++ ys) key ≡ value_at xs key → (o : Ordering) → nat_cmp key x.0 ≡ o → value_at (x ∷ (xs ++ ys)) key ≡ value_at (x ∷ xs) key
      by_order rest Less is = rw is rest
      by_order rest Equal is = rw is refl
      by_order rest Greater is = rw is rest

  value_behind : (key : ℕ) (xs ys : List (ℕ × V)) → AllByRecursion (λ e. e.0 < key) xs → value_at (xs ++ ys) key ≡ value_at ys key
  value_behind key [] ys all = refl
  value_behind key (x ∷ xs) ys all =
      let below : x.0 < key = all.0 in
      let greater : nat_cmp key x.0 ≡ Greater = grind (arith, nat_tests) in
      rw greater (value_behind key xs ys all.1)

  pub value_of_part : (lists : List (List (ℕ × V))) (key : ℕ) → LieFrom (λ e. e.0) 0 lists → part_of key < length lists →
      value_at (joined lists) key ≡ value_at (get_or lists (part_of key) []) key
  value_of_part lists key lie within =
      read_in (λ e. e.0) key (λ es. value_at es key) (record { front = value_front key; behind = value_behind key }) lists lie within

  -- ---- a value is put

  put_front : (key : ℕ) (value : V) (xs ys : List (ℕ × V)) → AllByRecursion (λ e. key < e.0) ys →
      with_value (xs ++ ys) key value ≡ with_value xs key value ++ ys
  put_front key value [] [] all = refl
  put_front key value [] (y ∷ ys) all = let above : key < y.0 = all.0 in let less : nat_cmp key y.0 ≡ Less = grind (arith, nat_tests) in rw less refl
  put_front key value (x ∷ xs) ys all = by_order (put_front key value xs ys all) (nat_cmp key x.0) refl
    where
      by_order : with_value (xs ++ ys) key value ≡ with_value xs key value ++ ys → (o : Ordering) → nat_cmp key x.0 ≡ o →
          with_value (x ∷ (xs ++ ys)) key value ≡ with_value (x ∷ xs) key value ++ ys
      by_order rest Less is = rw is refl
      by_order rest Equal is = rw is refl
      by_order rest Greater is = rw is (ap (λ others. x ∷ others) rest)

  put_behind : (key : ℕ) (value : V) (xs ys : List (ℕ × V)) → AllByRecursion (λ e. e.0 < key) xs →
      with_value (xs ++ ys) key value ≡ xs ++ with_value ys key value
  put_behind key value [] ys all = refl
  put_behind key value (x ∷ xs) ys all =
      let below : x.0 < key = all.0 in
      let greater : nat_cmp key x.0 ≡ Greater = grind (arith, nat_tests) in
      rw greater (ap (λ rest. x ∷ rest) (put_behind key value xs ys all.1))

  pub put_in_part : (lists : List (List (ℕ × V))) (key : ℕ) (value : V) → LieFrom (λ e. e.0) 0 lists → part_of key < length lists →
      with_value (joined lists) key value ≡ joined (set lists (part_of key) (with_value (get_or lists (part_of key) []) key value))
  put_in_part lists key value lie within =
      changed_in (λ e. e.0) key (λ es. with_value es key value) (record { front = put_front key value; behind = put_behind key value }) lists lie within

  all_put : (P : ℕ → Type 0) (es : List (ℕ × V)) (key : ℕ) (value : V) → AllByRecursion (λ e. P e.0) es → P key →
      AllByRecursion (λ e. P e.0) (with_value es key value)
  all_put P [] key value all own = (own, tt)
  all_put P (e ∷ es) key value all own = at_order (nat_cmp key e.0) (all_put P es key value all.1 own)
    where
      at_order : (o : Ordering) → AllByRecursion (λ e. P e.0) (with_value es key value) →
          AllByRecursion (λ e. P e.0) (match_ordering o ((key, value) ∷ e ∷ es) ((e.0, value) ∷ es) (e ∷ with_value es key value))
      at_order Less rest = (own, all)
      at_order Equal rest = all
      at_order Greater rest = (all.0, rest)

  pub lies_put : (lists : List (List (ℕ × V))) (key : ℕ) (value : V) → LieFrom (λ e. e.0) 0 lists → part_of key < length lists →
      LieFrom (λ e. e.0) 0 (set lists (part_of key) (with_value (get_or lists (part_of key) []) key value))
  lies_put lists key value lie within =
      lie_set (λ e. e.0) (part_of key) lists (with_value (get_or lists (part_of key) []) key value) lie
      (all_put (λ k. part_of k ≡ part_of key) (get_or lists (part_of key) []) key value (lie_at (λ e. e.0) (part_of key) lists lie within) refl)
