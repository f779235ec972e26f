-- The list of those that are live, in parts.
use Rattle.std.proofs.Common.{◌≡◌, ◌⊎◌, ℕ, zero, suc, ◌+◌, ◌<◌, ◌≤◌, List, [], ◌∷◌, ◌++◌, length, get_or, set, map, Bool, true, false, cond, Option, Some, None, if◌then◌else◌, refl, sym, ap, subst, ◌∙◌, inl, inr, ⊎_elim, arith}
use Rattle.std.specs.Prelude.{◌==◌, filter}
use Rattle.std.specs.BTreeSet.{insert_key}
use Rattle.std.specs.Global.{Vec}
use Rattle.std.specs.List.{AllByRecursion}
use Rattle.std.specs.Ordering.{nat_cmp, match_ordering}
use Rattle.std.specs.declared.cmp.Ordering.{Ordering}
use Rattle.std.specs.declared.cmp.Ordering.TheVariants.{Less, Equal, Greater}
use Rattle.std.specs.Vec.{vec_capacity}
use Rattle.std.proofs.lemmas.Bool.Decides.{nat_tests}
use Rattle.std.proofs.lemmas.List.{get_or-map, get_or-set_same, length-append, length-map, length-set, map-append, map-set, set-get_or}
use Rattle.std.proofs.lemmas.List.Elements.{filter-append}
use Rattle.mc_model.specs.synod.Lists.{In}
use Rattle.waiting_requests.specs.Numbers.{IsLeastFrom}
use Rattle.shelf.specs.Parted.{AreInTheirParts, IsNumberOfParts, LieFrom, all_in, joined, least_in, lists_of, part_of, wide_in}
use Rattle.shelf.proofs.Parting.{changed_in, lie_at, lie_none, lie_set, map_joined, read_in}
use Rattle.shelf.proofs.Rooms.{least_under}
use Rattle.node_parts.specs.declared.listing.Listing.{Listing}
use Rattle.node_parts.specs.Rising.{AreRising}
use Rattle.node_parts.specs.Rolling.{Enrolled}
use Rattle.node_parts.specs.Sleeping.{IsDueIn, ids_of}
use Rattle.node_parts.specs.Waking.{awake_in, is_awake, looked_at, soonest_in, until_at}
use Rattle.node_parts.proofs.Listings.{AreWoken, id_in}
use Rattle.node_parts.proofs.Rising.{each}

-- ---- what lies in one of two lists, or in one of many

module _ {A : Type 0} where
  pub in_front : (x : A) (xs ys : List A) → In x xs → In x (xs ++ ys)
  in_front x [] ys none = absurd none
  in_front x (z ∷ xs) ys (inl same) = inl same
  in_front x (z ∷ xs) ys (inr later) = inr (in_front x xs ys later)

  pub in_rest : (x : A) (xs ys : List A) → In x ys → In x (xs ++ ys)
  in_rest x [] ys there = there
  in_rest x (z ∷ xs) ys there = inr (in_rest x xs ys there)

  pub in_either : (x : A) (xs ys : List A) → In x (xs ++ ys) → In x xs ⊎ In x ys
  in_either x [] ys there = inr there
  in_either x (z ∷ xs) ys (inl same) = inl (inl same)
  in_either x (z ∷ xs) ys (inr later) = elim (in_either x xs ys later) [ inl one ↦ inl (inr one) | inr other ↦ inr other ]

  so_of : (P : A → Type 0) (xs : List A) → AllByRecursion P xs → (x : A) → In x xs → P x
  so_of P [] all x none = absurd none
  so_of P (z ∷ zs) all x (inl same) = subst P (sym same) all.0
  so_of P (z ∷ zs) all x (inr later) = so_of P zs all.1 x later

  part_from : (key : A → ℕ) (place : ℕ) (lists : List (List A)) → LieFrom key place lists → (x : A) → In x (joined lists) → place ≤ part_of (key x)
  part_from key place [] lie x none = absurd none
  part_from key place (list ∷ lists) lie x there = elim (in_either x list (joined lists) there) [
    | inl one ↦ let is = so_of (λ a. part_of (key a) ≡ place) list lie.0 x one in omega (arith, is)
    | inr other ↦ let is = part_from key (place + 1) lists lie.1 x other in omega (arith, is)
  ]

  pub length_part : (lists : List (List A)) (k : ℕ) → length (get_or lists k []) ≤ length (joined lists)
  length_part [] k = omega arith
  length_part (list ∷ lists) zero = let sum = length-append list (joined lists) in omega (arith, sum)
  length_part (list ∷ lists) (suc k) = let sum = length-append list (joined lists) in let rest = length_part lists k in omega (arith, sum, rest)

-- ---- the ids in parts

lie_of_ids : (place : ℕ) (lists : List (List Listing)) → LieFrom (λ l. l.id) place lists → LieFrom (λ n. n) place (map ids_of lists)
lie_of_ids place [] lie = tt
lie_of_ids place (list ∷ lists) lie = (ids_so list lie.0, lie_of_ids (place + 1) lists lie.1)
  where
    ids_so : (ls : List Listing) → AllByRecursion (λ l. part_of l.id ≡ place) ls → AllByRecursion (λ n. part_of n ≡ place) (ids_of ls)
    ids_so [] all = tt
    ids_so (l ∷ ls) all = (all.0, ids_so ls all.1)

ids_front : (id : ℕ) (xs ys : List ℕ) → AllByRecursion (λ y. id < y) ys → insert_key nat_cmp (xs ++ ys) id ≡ insert_key nat_cmp xs id ++ ys
ids_front id [] [] all = refl
ids_front id [] (y ∷ ys) all = let above : id < y = all.0 in let less : nat_cmp id y ≡ Less = grind (arith, nat_tests) in rw less refl
ids_front id (x ∷ xs) ys all = by_order (ids_front id xs ys all) (nat_cmp id x) refl
  where
    by_order : insert_key nat_cmp (xs ++ ys) id ≡ insert_key nat_cmp xs id ++ ys → (o : Ordering) → nat_cmp id x ≡ o →
        insert_key nat_cmp (x ∷ (xs ++ ys)) id ≡ insert_key nat_cmp (x ∷ xs) id ++ ys
    by_order rest Less is = rw is refl
    by_order rest Equal is = rw is refl
    by_order rest Greater is = rw is (ap (λ others. x ∷ others) rest)

ids_behind : (id : ℕ) (xs ys : List ℕ) → AllByRecursion (λ x. x < id) xs → insert_key nat_cmp (xs ++ ys) id ≡ xs ++ insert_key nat_cmp ys id
ids_behind id [] ys all = refl
ids_behind id (x ∷ xs) ys all =
    let below : x < id = all.0 in
    let greater : nat_cmp id x ≡ Greater = grind (arith, nat_tests) in
    rw greater (ap (λ rest. x ∷ rest) (ids_behind id xs ys all.1))

module _ (id : ℕ) (lists : List (List Listing)) (lie : LieFrom (λ l. l.id) 0 lists) (within : part_of id < length lists) where
  pub ids_put : (new : List Listing) → ids_of new ≡ insert_key nat_cmp (ids_of (get_or lists (part_of id) [])) id →
      ids_of (joined (set lists (part_of id) new)) ≡ insert_key nat_cmp (ids_of (joined lists)) id
  ids_put new is =
      let k = part_of id in
      let read : get_or (map ids_of lists) k [] ≡ ids_of (get_or lists k []) = get_or-map ids_of lists k [] [] within in
      map_joined (λ (l : Listing). l.id) (set lists k new)
      ∙ ap joined (map-set ids_of lists k new ∙ ap (λ ns. set (map ids_of lists) k ns) (is ∙ sym (ap (λ ns. insert_key nat_cmp ns id) read)))
      ∙ sym (changed_in (λ n. n) id (λ ns. insert_key nat_cmp ns id) (record { front = ids_front id; behind = ids_behind id }) (map ids_of lists)
      (lie_of_ids 0 lists lie) (omega (arith, length-map lists ids_of, within)))
      ∙ sym (ap (λ ns. insert_key nat_cmp ns id) (map_joined (λ (l : Listing). l.id) lists))

  pub length_put : length (insert_key nat_cmp (ids_of (get_or lists (part_of id) [])) id) ≤ length (insert_key nat_cmp (ids_of (joined lists)) id)
  length_put =
      let k = part_of id in
      let in_ids : k < length (map ids_of lists) = omega (arith, length-map lists ids_of, within) in
      let read : get_or (map ids_of lists) k [] ≡ ids_of (get_or lists k []) = get_or-map ids_of lists k [] [] within in
      let put = insert_key nat_cmp (get_or (map ids_of lists) k []) id in
      let all = ap length (ap (λ ns. insert_key nat_cmp ns id) (map_joined (λ (l : Listing). l.id) lists)
      ∙ changed_in (λ n. n) id (λ ns. insert_key nat_cmp ns id) (record { front = ids_front id; behind = ids_behind id }) (map ids_of lists)
      (lie_of_ids 0 lists lie) in_ids) in
      let part = length_part (set (map ids_of lists) k put) k in
      let there = ap length (get_or-set_same (map ids_of lists) k put [] in_ids) in
      let here = ap (λ ns. length (insert_key nat_cmp ns id)) read in
      omega (arith, all, part, there, here)

woken_from : (id place k : ℕ) (lists : List (List Listing)) (new : List Listing) → LieFrom (λ l. l.id) place lists → part_of id ≡ place + k → k < length lists →
    AreWoken id (get_or lists k []) new → AreWoken id (joined lists) (joined (set lists k new))
woken_from id place k [] new lie is within woken l there = absurd (omega (arith, within))
woken_from id place zero (list ∷ lists) new lie is within woken l there = elim (in_either l new (joined lists) there) [
  | inl one ↦ elim (woken l one) [
    | inl own ↦ inl own
    | inr was ↦ inr (in_front l list (joined lists) was.0, was.1)
  ]
  | inr other ↦ inr (
    in_rest l list (joined lists) other,
    λ same. let part = part_from (λ (x : Listing). x.id) (place + 1) lists lie.1 l other in let at = ap part_of same in omega (arith, part, at, is),
  )
]
woken_from id place (suc k) (list ∷ lists) new lie is within woken l there = elim (in_either l list (joined (set lists k new)) there) [
  | inl one ↦ inr (
    in_front l list (joined lists) one,
    λ same. let part = so_of (λ (a : Listing). part_of a.id ≡ place) list lie.0 l one in let at = ap part_of same in omega (arith, part, at, is),
  )
  | inr other ↦ elim (woken_from id (place + 1) k lists new lie.1 (omega (arith, is)) (omega (arith, within)) woken l other) [
    | inl own ↦ inl own
    | inr was ↦ inr (in_rest l list (joined lists) was.0, was.1)
  ]
]

pub woken_in : (id : ℕ) (lists : List (List Listing)) (new : List Listing) → LieFrom (λ l. l.id) 0 lists → part_of id < length lists →
    AreWoken id (get_or lists (part_of id) []) new → AreWoken id (joined lists) (joined (set lists (part_of id) new))
woken_in id lists new lie within woken = woken_from id 0 (part_of id) lists new lie (omega arith) within woken

-- those of a part have ids of that part still
pub lie_woken : (id : ℕ) (lists : List (List Listing)) (new : List Listing) → LieFrom (λ l. l.id) 0 lists → part_of id < length lists →
    ids_of new ≡ insert_key nat_cmp (ids_of (get_or lists (part_of id) [])) id → LieFrom (λ l. l.id) 0 (set lists (part_of id) new)
lie_woken id lists new lie within is =
    lie_set (λ l. l.id) (part_of id) lists new lie
    (of_ids new (subst (λ ns. AllByRecursion (λ n. part_of n ≡ part_of id) ns) (sym is)
    (put_so (ids_of (get_or lists (part_of id) [])) (to_ids (get_or lists (part_of id) []) (lie_at (λ l. l.id) (part_of id) lists lie within)))))
  where
    to_ids : (ls : List Listing) → AllByRecursion (λ l. part_of l.id ≡ part_of id) ls → AllByRecursion (λ n. part_of n ≡ part_of id) (ids_of ls)
    to_ids [] all = tt
    to_ids (l ∷ ls) all = (all.0, to_ids ls all.1)

    of_ids : (ls : List Listing) → AllByRecursion (λ n. part_of n ≡ part_of id) (ids_of ls) → AllByRecursion (λ l. part_of l.id ≡ part_of id) ls
    of_ids [] all = tt
    of_ids (l ∷ ls) all = (all.0, of_ids ls all.1)

    put_so : (ns : List ℕ) → AllByRecursion (λ n. part_of n ≡ part_of id) ns → AllByRecursion (λ n. part_of n ≡ part_of id) (insert_key nat_cmp ns id)
    put_so [] all = (refl, tt)
    put_so (n ∷ ns) all = at_order (nat_cmp id n) (put_so ns all.1)
      where
        at_order : (o : Ordering) → AllByRecursion (λ m. part_of m ≡ part_of id) (insert_key nat_cmp ns id) →
            AllByRecursion (λ m. part_of m ≡ part_of id) (match_ordering o (id ∷ n ∷ ns) (n ∷ ns) (n ∷ insert_key nat_cmp ns id))
        at_order Less rest = (refl, all)
        at_order Equal rest = all
        at_order Greater rest = (all.0, rest)

-- ---- numbers that rise, one list behind another

pub rise_front : (xs ys : List ℕ) → AreRising (xs ++ ys) → AreRising xs
rise_front [] ys rise = tt
rise_front (x ∷ xs) ys rise = (above xs rise.0, rise_front xs ys rise.1)
  where
    above : (zs : List ℕ) → AllByRecursion (λ (z : ℕ). x < z) (zs ++ ys) → AllByRecursion (λ (z : ℕ). x < z) zs
    above [] all = tt
    above (z ∷ zs) all = (all.0, above zs all.1)

pub rise_rest : (xs ys : List ℕ) → AreRising (xs ++ ys) → AreRising ys
rise_rest [] ys rise = rise
rise_rest (x ∷ xs) ys rise = rise_rest xs ys rise.1

rise_between : (xs ys : List ℕ) → AreRising (xs ++ ys) → (x y : ℕ) → In x xs → In y ys → x < y
rise_between [] ys rise x y none there = absurd none
rise_between (z ∷ xs) ys rise x y (inl same) there = let above = each (λ (n : ℕ). z < n) (xs ++ ys) rise.0 y (in_rest y xs ys there) in omega (arith, above, same)
rise_between (z ∷ xs) ys rise x y (inr later) there = rise_between xs ys rise.1 x y later there

pub ids_joined : (ls ms : List Listing) → ids_of (ls ++ ms) ≡ ids_of ls ++ ids_of ms
ids_joined ls ms = map-append (λ (l : Listing). l.id) ls ms

pub part_rises : (lists : List (List Listing)) (k : ℕ) → AreRising (ids_of (joined lists)) → AreRising (ids_of (get_or lists k []))
part_rises [] k rise = tt
part_rises (list ∷ lists) zero rise = rise_front (ids_of list) (ids_of (joined lists)) (subst AreRising (ids_joined list (joined lists)) rise)
part_rises (list ∷ lists) (suc k) rise = part_rises lists k (rise_rest (ids_of list) (ids_of (joined lists)) (subst AreRising (ids_joined list (joined lists)) rise))

-- ---- the least from a number on

-- what is so of an id among some is so among more, and not otherwise
pub record IsAmong (IsOne : List Listing → ℕ → Type 0) : Type 0 where
  pub none : (id : ℕ) → IsOne [] id → ⊥
  pub front : (ls ms : List Listing) (id : ℕ) → IsOne ls id → IsOne (ls ++ ms) id
  pub rest : (ls ms : List Listing) (id : ℕ) → IsOne ms id → IsOne (ls ++ ms) id
  pub either : (ls ms : List Listing) (id : ℕ) → IsOne (ls ++ ms) id → IsOne ls id ⊎ IsOne ms id
  pub listed : (ls : List Listing) (id : ℕ) → IsOne ls id → In id (ids_of ls)

abbrev pub Is_listed : List Listing → ℕ → Type 0
Is_listed ls id = In id (ids_of ls)

pub listed_among : IsAmong Is_listed
listed_among = record {
  none = λ id none. none;
  front = λ ls ms id one. subst (In id) (sym (ids_joined ls ms)) (in_front id (ids_of ls) (ids_of ms) one);
  rest = λ ls ms id one. subst (In id) (sym (ids_joined ls ms)) (in_rest id (ids_of ls) (ids_of ms) one);
  either = λ ls ms id one. in_either id (ids_of ls) (ids_of ms) (subst (In id) (ids_joined ls ms) one);
  listed = λ ls id one. one;
}

pub due_among : (clock : ℕ) → IsAmong (IsDueIn clock)
due_among clock = record {
  none = λ id due. due.among;
  front = λ ls ms id due. record { listing = due.listing; among = in_front due.listing ls ms due.among; named = due.named; due = due.due };
  rest = λ ls ms id due. record { listing = due.listing; among = in_rest due.listing ls ms due.among; named = due.named; due = due.due };
  either = λ ls ms id due. elim (in_either due.listing ls ms due.among) [
    | inl one ↦ inl (record { listing = due.listing; among = one; named = due.named; due = due.due })
    | inr other ↦ inr (record { listing = due.listing; among = other; named = due.named; due = due.due })
  ];
  listed = λ ls id due. subst (λ n. In n (ids_of ls)) due.named (id_in due.listing ls due.among);
}

module _ (IsOne : List Listing → ℕ → Type 0) (is : IsAmong IsOne) (from : ℕ) where
  -- the least of some is that of all behind others that are lower than a number
  pub least_front : (ls ms : List Listing) (least : ℕ) → AreRising (ids_of (ls ++ ms)) → IsLeastFrom from (IsOne ls) (Some least) →
      IsLeastFrom from (IsOne (ls ++ ms)) (Some least)
  least_front ls ms least rise (one, (high, low)) = (
    is.front ls ms least one,
    (
      high,
      λ id so above. elim (is.either ls ms id so) [
        | inl early ↦ low id early above
        | inr late ↦
            let apart = rise_between (ids_of ls) (ids_of ms) (subst AreRising (ids_joined ls ms) rise) least id (is.listed ls least one) (is.listed ms id late) in
            omega (arith, apart)
      ],
    ),
  )

  pub least_behind : (ls ms : List Listing) (least : Option ℕ) → IsLeastFrom from (IsOne ls) None → IsLeastFrom from (IsOne ms) least →
      IsLeastFrom from (IsOne (ls ++ ms)) least
  least_behind ls ms None none found = λ id so. elim (is.either ls ms id so) [ inl early ↦ none id early | inr late ↦ found id late ]
  least_behind ls ms (Some least) none (one, (high, low)) = (
    is.rest ls ms least one,
    (
      high,
      λ id so above. elim (is.either ls ms id so) [
        | inl early ↦ let below = none id early in absurd (omega (arith, below, above))
        | inr late ↦ low id late above
      ],
    ),
  )

  pub least_none : IsLeastFrom from (IsOne []) None
  least_none = λ id so. absurd (is.none id so)

-- ---- one that is read or looked at

until_front : (id : ℕ) (ls ms : List Listing) → AllByRecursion (λ m. id < m.id) ms → until_at (ls ++ ms) id ≡ until_at ls id
until_front id [] [] all = refl
until_front id [] (m ∷ ms) all = let above : id < m.id = all.0 in let other : (m.id == id) ≡ false = grind (arith, nat_tests) in rw other (until_front id [] ms all.1)
until_front id (l ∷ ls) ms all = ap (λ rest. if l.id == id then l.until else rest) (until_front id ls ms all)

until_behind : (id : ℕ) (ls ms : List Listing) → AllByRecursion (λ l. l.id < id) ls → until_at (ls ++ ms) id ≡ until_at ms id
until_behind id [] ms all = refl
until_behind id (l ∷ ls) ms all = let below : l.id < id = all.0 in let other : (l.id == id) ≡ false = grind (arith, nat_tests) in rw other (until_behind id ls ms all.1)

pub until_in : (id : ℕ) (lists : List (List Listing)) → LieFrom (λ l. l.id) 0 lists → part_of id < length lists →
    until_at (joined lists) id ≡ until_at (get_or lists (part_of id) []) id
until_in id lists lie within =
    read_in (λ l. l.id) id (λ ls. until_at ls id) (record { front = until_front id; behind = until_behind id }) lists lie within

module _ (look : Listing → Listing) where
  none_higher : (id : ℕ) (ms : List Listing) → AllByRecursion (λ m. id < m.id) ms → looked_at look id ms ≡ ms
  none_higher id [] all = refl
  none_higher id (m ∷ ms) all =
      let above : id < m.id = all.0 in let other : (m.id == id) ≡ false = grind (arith, nat_tests) in rw other (ap (λ rest. m ∷ rest) (none_higher id ms all.1))

  none_lower : (id : ℕ) (ms : List Listing) → AllByRecursion (λ m. m.id < id) ms → looked_at look id ms ≡ ms
  none_lower id [] all = refl
  none_lower id (m ∷ ms) all =
      let below : m.id < id = all.0 in let other : (m.id == id) ≡ false = grind (arith, nat_tests) in rw other (ap (λ rest. m ∷ rest) (none_lower id ms all.1))

  pub looked_in : (id : ℕ) (lists : List (List Listing)) → LieFrom (λ l. l.id) 0 lists → part_of id < length lists →
      looked_at look id (joined lists) ≡ joined (set lists (part_of id) (looked_at look id (get_or lists (part_of id) [])))
  looked_in id lists lie within =
      changed_in (λ l. l.id) id (looked_at look id) (record {
        front = λ ls ms all. map-append (λ l. if l.id == id then look l else l) ls ms ∙ ap (λ rest. looked_at look id ls ++ rest) (none_higher id ms all);
        behind = λ ls ms all. map-append (λ l. if l.id == id then look l else l) ls ms ∙ ap (λ rest. rest ++ looked_at look id ms) (none_lower id ls all);
      }) lists lie within

-- ---- of all, one after another

pub soonest_joined : (ls ms : List Listing) (until : ℕ) → soonest_in (ls ++ ms) until ≡ soonest_in ms (soonest_in ls until)
soonest_joined [] ms until = refl
soonest_joined (l ∷ ls) ms until = soonest_joined ls ms _

pub awake_joined : (ls ms : List Listing) → awake_in (ls ++ ms) ≡ awake_in ls ++ awake_in ms
awake_joined ls ms = ap ids_of (filter-append is_awake ls ms) ∙ ids_joined (filter is_awake ls) (filter is_awake ms)

-- a list of which some are taken off lies in the same part
pub filter_so : (test : Listing → Bool) (P : ℕ → Type 0) (ls : List Listing) → AllByRecursion (λ l. P l.id) ls → AllByRecursion (λ l. P l.id) (filter test ls)
filter_so test P [] all = tt
filter_so test P (l ∷ ls) all = by_test (test l) (filter_so test P ls all.1)
  where
    by_test : (b : Bool) → AllByRecursion (λ x. P x.id) (filter test ls) → AllByRecursion (λ x. P x.id) (cond b (l ∷ filter test ls) (filter test ls))
    by_test true rest = (all.0, rest)
    by_test false rest = rest

-- so does one in which each is looked at
pub map_so : (look : Listing → Listing) → ((l : Listing) → (look l).id ≡ l.id) → (P : ℕ → Type 0) (ls : List Listing) →
    AllByRecursion (λ l. P l.id) ls → AllByRecursion (λ l. P l.id) (map look ls)
map_so look same P [] all = tt
map_so look same P (l ∷ ls) all = (subst P (sym (same l)) all.0, map_so look same P ls all.1)

-- ---- the parts

module _ (parts : List (Vec Listing)) (place : ℕ) (part : Vec Listing) (within : place < length parts) (read : part ≡ get_or parts place part) where
  pub list_read : get_or (lists_of parts) place [] ≡ part.items
  list_read = get_or-map (λ (p : Vec Listing). p.items) parts place part [] within ∙ sym (ap (λ (p : Vec Listing). p.items) read)

  pub rises_in_part : AreRising (ids_of (all_in parts)) → AreRising (ids_of part.items)
  rises_in_part rise = subst (λ ls. AreRising (ids_of ls)) list_read (part_rises (lists_of parts) place rise)

  -- a part is as wide as all are
  pub wide_part : wide_in parts ≤ vec_capacity part
  wide_part =
      let least = least_under (map (λ (p : Vec Listing). vec_capacity p) parts) place (omega (arith, length-map parts (λ (p : Vec Listing). vec_capacity p), within)) in
      let width : get_or (map (λ (p : Vec Listing). vec_capacity p) parts) place 0 ≡ vec_capacity part =
      get_or-map (λ (p : Vec Listing). vec_capacity p) parts place part 0 within ∙ sym (ap (λ (p : Vec Listing). vec_capacity p) read) in
      omega (arith, least, width)

  -- its width stays
  pub same_width : (after : Vec Listing) → vec_capacity after ≡ vec_capacity part → wide_in (set parts place after) ≡ wide_in parts
  same_width after same =
      let width : get_or (map (λ (p : Vec Listing). vec_capacity p) parts) place 0 ≡ vec_capacity part =
      get_or-map (λ (p : Vec Listing). vec_capacity p) parts place part 0 within ∙ sym (ap (λ (p : Vec Listing). vec_capacity p) read) in
      ap least_in (map-set (λ (p : Vec Listing). vec_capacity p) parts place after
      ∙ ap (λ n. set (map (λ (p : Vec Listing). vec_capacity p) parts) place n) (same ∙ sym width)
      ∙ set-get_or (map (λ (p : Vec Listing). vec_capacity p) parts) place 0)

pub lists_within : (parts : List (Vec Listing)) (place : ℕ) → place < length parts → place < length (lists_of parts)
lists_within parts place within = omega (arith, length-map parts (λ (p : Vec Listing). p.items), within)

-- one part is changed
pub still_parted : (parts : List (Vec Listing)) (place : ℕ) (after : Vec Listing) → AreInTheirParts (λ l. l.id) parts →
    LieFrom (λ l. l.id) 0 (set (lists_of parts) place after.items) → AreInTheirParts (λ l. l.id) (set parts place after)
still_parted parts place after are lie = record {
  lie = subst (LieFrom (λ l. l.id) 0) (sym (map-set (λ (p : Vec Listing). p.items) parts place after)) lie;
  number = subst IsNumberOfParts (sym (length-set parts place after)) are.number;
}

-- all are changed alike
pub all_parted : (new old : List (Vec Listing)) (change : List Listing → List Listing) → lists_of new ≡ map change (lists_of old) →
    LieFrom (λ l. l.id) 0 (map change (lists_of old)) → AreInTheirParts (λ l. l.id) old → AreInTheirParts (λ l. l.id) new
all_parted new old change is lie are = record {
  lie = subst (LieFrom (λ l. l.id) 0) (sym is) lie;
  number = subst IsNumberOfParts
      (sym (length-map old (λ (p : Vec Listing). p.items)) ∙ sym (length-map (lists_of old) change) ∙ ap length (sym is)
      ∙ length-map new (λ (p : Vec Listing). p.items)) are.number;
}

pub none_parted : (parts : List (Vec Listing)) → IsNumberOfParts (length parts) → all_in parts ≡ [] → AreInTheirParts (λ l. l.id) parts
none_parted parts number none = record { lie = lie_none (λ l. l.id) 0 (lists_of parts) none; number = number }

pub is_within : (parts : List (Vec Listing)) (key : ℕ) → IsNumberOfParts (length parts) → (length parts ≡ 0 → ⊥) → part_of key < length parts
is_within parts key number some = ⊎_elim (λ none. absurd (some none)) (λ ten. omega (arith, ten)) number

pub no_part : (parts : List (Vec Listing)) → length parts ≡ 0 → (all_in parts ≡ []) × (wide_in parts ≡ 0)
no_part [] none = (refl, refl)
no_part (part ∷ parts) none = absurd (omega (arith, none))

pub some_put : (id : ℕ) (ns : List ℕ) → 0 < length (insert_key nat_cmp ns id)
some_put id [] = omega arith
some_put id (n ∷ ns) = by_order (nat_cmp id n)
  where
    by_order : (o : Ordering) → 0 < length (match_ordering o (id ∷ n ∷ ns) (n ∷ ns) (n ∷ insert_key nat_cmp ns id))
    by_order Less = omega arith
    by_order Equal = omega arith
    by_order Greater = omega arith

-- ---- a message is listed

pub has_room : (parts : List (Vec Listing)) (id : ℕ) → IsNumberOfParts (length parts) → (e : Enrolled) →
    record { items = all_in parts; width = wide_in parts } ≡ e → length (insert_key nat_cmp (ids_of e.items) id) ≤ e.width → part_of id < length parts
has_room parts id number e view room = is_within parts id number (λ none.
    let narrow = (no_part parts none).1 in
    let width = ap (λ (t : Enrolled). t.width) view in
    let some = some_put id (ids_of e.items) in
    omega (arith, narrow, width, some, room))

module _ (parts : List (Vec Listing)) (id : ℕ) (part : Vec Listing) (are : AreInTheirParts (λ l. l.id) parts) (within : part_of id < length parts)
    (read : part ≡ get_or parts (part_of id) part) where
  pub room_in_part : length (insert_key nat_cmp (ids_of (all_in parts)) id) ≤ wide_in parts → length (insert_key nat_cmp (ids_of part.items) id) ≤ vec_capacity part
  room_in_part room =
      let most = length_put id (lists_of parts) are.lie (lists_within parts (part_of id) within) in
      let here = ap (λ ls. length (insert_key nat_cmp (ids_of ls) id)) (list_read parts (part_of id) part within read) in
      let wide = wide_part parts (part_of id) part within read in
      omega (arith, room, most, here, wide)

  module _ (after : Vec Listing) where
    pub enlisted_ids : ids_of after.items ≡ insert_key nat_cmp (ids_of part.items) id →
        ids_of (all_in (set parts (part_of id) after)) ≡ insert_key nat_cmp (ids_of (all_in parts)) id
    enlisted_ids is =
        ap (λ ls. ids_of (joined ls)) (map-set (λ (p : Vec Listing). p.items) parts (part_of id) after)
        ∙ ids_put id (lists_of parts) are.lie (lists_within parts (part_of id) within) after.items
        (is ∙ sym (ap (λ ls. insert_key nat_cmp (ids_of ls) id) (list_read parts (part_of id) part within read)))

    pub enlisted_parted : ids_of after.items ≡ insert_key nat_cmp (ids_of part.items) id → AreInTheirParts (λ l. l.id) (set parts (part_of id) after)
    enlisted_parted is =
        still_parted parts (part_of id) after are
        (lie_woken id (lists_of parts) after.items are.lie (lists_within parts (part_of id) within)
        (is ∙ sym (ap (λ ls. insert_key nat_cmp (ids_of ls) id) (list_read parts (part_of id) part within read))))

    pub enlisted_woken : AreWoken id part.items after.items → AreWoken id (all_in parts) (all_in (set parts (part_of id) after))
    enlisted_woken woken =
        subst (λ ls. AreWoken id (all_in parts) (joined ls)) (sym (map-set (λ (p : Vec Listing). p.items) parts (part_of id) after))
        (woken_in id (lists_of parts) after.items are.lie (lists_within parts (part_of id) within)
        (subst (λ ls. AreWoken id ls after.items) (sym (list_read parts (part_of id) part within read)) woken))

    pub looked_at_one : (look : Listing → Listing) → after.items ≡ looked_at look id part.items →
        all_in (set parts (part_of id) after) ≡ looked_at look id (all_in parts)
    looked_at_one look is =
        ap joined (map-set (λ (p : Vec Listing). p.items) parts (part_of id) after
        ∙ ap (λ ls. set (lists_of parts) (part_of id) ls) (is ∙ sym (ap (looked_at look id) (list_read parts (part_of id) part within read))))
        ∙ sym (looked_in look id (lists_of parts) are.lie (lists_within parts (part_of id) within))

    pub looked_at_parted : (look : Listing → Listing) → ((l : Listing) → (look l).id ≡ l.id) → after.items ≡ looked_at look id part.items →
        AreInTheirParts (λ l. l.id) (set parts (part_of id) after)
    looked_at_parted look same is =
        still_parted parts (part_of id) after are
        (lie_set (λ l. l.id) (part_of id) (lists_of parts) after.items are.lie
        (subst (λ ls. AllByRecursion (λ l. part_of l.id ≡ part_of id) ls) (sym is)
        (map_so (λ l. if l.id == id then look l else l) keeps (λ n. part_of n ≡ part_of id) part.items
        (subst (λ ls. AllByRecursion (λ l. part_of l.id ≡ part_of id) ls) (list_read parts (part_of id) part within read)
        (lie_at (λ l. l.id) (part_of id) (lists_of parts) are.lie (lists_within parts (part_of id) within))))))
      where
        keeps : (l : Listing) → (if l.id == id then look l else l).id ≡ l.id
        keeps l = elim (l.id == id) as (λ b. (if b then look l else l).id ≡ l.id) [ true ↦ same l | false ↦ refl ]

  pub until_there : until_at (all_in parts) id ≡ until_at part.items id
  until_there =
      until_in id (lists_of parts) are.lie (lists_within parts (part_of id) within)
      ∙ ap (λ ls. until_at ls id) (list_read parts (part_of id) part within read)

-- the first of parts that are all alike, or an empty one in its place
pub first_wide : (parts : List (Vec Listing)) (none : Vec Listing) (room : ℕ) → ((k : ℕ) (d : Vec Listing) → k < length parts → vec_capacity (get_or parts k d) ≡ room) →
    wide_in parts ≡ room → vec_capacity none ≡ 0 → vec_capacity (get_or parts 0 none) ≡ room
first_wide [] none room each wide empty = empty ∙ wide
first_wide (part ∷ parts) none room each wide empty = each 0 none (omega arith)
