-- Those that are listed, as they are put, looked at and taken off.
use Rattle.std.proofs.Common.{◌≡◌, ◌⊎◌, ℕ, zero, suc, ◌+◌, ◌-◌, ◌<◌, ◌≤◌, Bool, true, false, cond, List, [], ◌∷◌, length, length-drop, drop, take, get_or, set, map, Option, Some, None}
use Rattle.std.proofs.Common.{Result, Ok, Err, refl, sym, ap, subst, ◌∙◌, inl, inr, arith}
use Rattle.std.specs.Prelude.{◌==◌, filter, option_map, slice_get}
use Rattle.std.specs.BTreeSet.{insert_key}
use Rattle.std.specs.List.{AllByRecursion, find, insert}
use Rattle.std.specs.List.Sorted.{IsBinarySearchResult, IsNonDecreasingBy, IsSearchInRange}
use Rattle.std.specs.Ordering.{nat_cmp, ordering_index}
use Rattle.std.proofs.lemmas.Bool.{cases_Bool, eq-eqb, true≢false}
use Rattle.std.proofs.lemmas.Bool.Decides.{Decides-eqb}
use Rattle.std.proofs.lemmas.List.{get_or-map, length-map}
use Rattle.mc_model.specs.synod.Lists.{In}
use Rattle.waiting_requests.specs.Numbers.{IsLeastFrom}
use Rattle.shelf.proofs.Visited.{changed_length, changed_to, next_is, one_more}
use Rattle.node_parts.specs.declared.listing.Listing.{Listing}
use Rattle.node_parts.specs.Rising.{AreRising, IsCut, IsPlaceOf}
use Rattle.node_parts.specs.Sleeping.{IsDueIn, ids_of, is_due}
use Rattle.node_parts.proofs.IdLists.{searched, tail_cut}
use Rattle.node_parts.proofs.Rising.{each}

-- ---- their ids

pub id_in : (l : Listing) (live : List Listing) → In l live → In l.id (ids_of live)
id_in l [] none = absurd none
id_in l (x ∷ xs) (inl same) = inl (ap (λ (it : Listing). it.id) same)
id_in l (x ∷ xs) (inr later) = inr (id_in l xs later)

pub with_id : (id : ℕ) (live : List Listing) → In id (ids_of live) → (l : Listing) × (In l live) × (l.id ≡ id)
with_id id [] none = absurd none
with_id id (x ∷ xs) (inl same) = (x, inl refl, sym same)
with_id id (x ∷ xs) (inr later) = let there = with_id id xs later in (there.0, inr there.1, there.2)

pub among_or : (id : ℕ) (live : List Listing) → ((l : Listing) × (In l live) × (l.id ≡ id)) ⊎ (In id (ids_of live) → ⊥)
among_or id [] = inr (λ none. none)
among_or id (l ∷ ls) = elim (cases_Bool (l.id == id)) [
  | inl same ↦ inl (l, inl refl, (Decides-eqb l.id id).0 same)
  | inr differs ↦ elim (among_or id ls) [
    | inl there ↦ inl (there.0, inr there.1, there.2)
    | inr none ↦ inr (λ among. elim among [
      | inl same ↦ true≢false (sym (eq-eqb l.id id (sym same)) ∙ differs)
      | inr later ↦ none later
    ])
  ]
]

-- two that have one id are one
only_one : (live : List Listing) → AreRising (ids_of live) → (l x : Listing) → In l live → In x live → l.id ≡ x.id → l ≡ x
only_one [] rise l x none there same = absurd none
only_one (y ∷ ys) rise l x (inl first) (inl other) same = first ∙ sym other
only_one (y ∷ ys) rise l x (inl first) (inr later) same =
    let above = each (λ (id : ℕ). y.id < id) (ids_of ys) rise.0 x.id (id_in x ys later) in
    let at = ap (λ (it : Listing). it.id) first in
    absurd (omega (arith, above, same, at))
only_one (y ∷ ys) rise l x (inr later) (inl other) same =
    let above = each (λ (id : ℕ). y.id < id) (ids_of ys) rise.0 l.id (id_in l ys later) in
    let at = ap (λ (it : Listing). it.id) other in
    absurd (omega (arith, above, same, at))
only_one (y ∷ ys) rise l x (inr later) (inr other) same = only_one ys rise.1 l x later other same

-- ---- where one stands

module _ (live : List Listing) (id : ℕ) where
  id_at : (place d : ℕ) (e : Listing) → place < length live → get_or (ids_of live) place d ≡ (get_or live place e).id
  id_at place d e within = get_or-map (λ (l : Listing). l.id) live place e d within

  any : Listing
  any = record { id = 0; until = None }

  many : length (ids_of live) ≡ length live
  many = length-map live (λ (l : Listing). l.id)

  found_among : (found : Result ℕ ℕ) → IsSearchInRange found (length live) → IsBinarySearchResult (λ (l : Listing). nat_cmp l.id id) live found →
      IsBinarySearchResult (λ (other : ℕ). nat_cmp other id) (ids_of live) found
  found_among (Ok place) within equal = λ d. ap (λ (n : ℕ). nat_cmp n id) (id_at place d any within) ∙ equal any
  found_among (Err place) within parted = λ rising.
      let rises : IsNonDecreasingBy (λ (l : Listing). ordering_index (nat_cmp l.id id)) live =
      (λ one other d from inside.
      let low = id_at one d.id d (omega (arith, from, inside)) in
      let high = id_at other d.id d inside in
      let there = rising one other d.id from (omega (arith, inside, many)) in
      subst (λ (n : ℕ). ordering_index (nat_cmp n id) ≤ ordering_index (nat_cmp (get_or live other d).id id)) low
      (subst (λ (n : ℕ). ordering_index (nat_cmp (get_or (ids_of live) one d.id) id) ≤ ordering_index (nat_cmp n id)) high there)) in
      let both = parted rises in (
        λ other d inside lower. ap (λ (n : ℕ). nat_cmp n id) (id_at other d any (omega (arith, inside, many))) ∙ both.0 other any (omega (arith, inside, many)) lower,
        λ other d from inside. ap (λ (n : ℕ). nat_cmp n id) (id_at other d any (omega (arith, inside, many))) ∙ both.1 other any from (omega (arith, inside, many)),
      )

  pub place_found : AreRising (ids_of live) → (found : Result ℕ ℕ) → IsSearchInRange found (length live) →
      IsBinarySearchResult (λ (l : Listing). nat_cmp l.id id) live found → IsPlaceOf (ids_of live) id found
  place_found rise found within is =
      searched (ids_of live) id rise found (subst (IsSearchInRange found) (sym many) within) (found_among found within is)

-- it stands there in a list that is the same
pub placed : (ls seen : List Listing) (id number : ℕ) (found to : Result ℕ ℕ) → seen ≡ ls → number ≡ id → found ≡ to →
    IsPlaceOf (ids_of seen) number found → IsPlaceOf (ids_of ls) id to
placed ls seen id number found to live numbers is at =
    subst (λ (r : Result ℕ ℕ). IsPlaceOf (ids_of ls) id r) is
    (subst (λ (n : ℕ). IsPlaceOf (ids_of ls) n found) numbers (subst (λ (s : List Listing). IsPlaceOf (ids_of s) number found) live at))

-- ---- one is listed

set_there : (live : List Listing) (place : ℕ) (x : Listing) → slice_get (ids_of live) place ≡ Some x.id → ids_of (set live place x) ≡ ids_of live
set_there [] place x at = refl
set_there (y ∷ ys) zero x at = let same : x.id ≡ y.id = cc in ap (λ (id : ℕ). id ∷ ids_of ys) same
set_there (y ∷ ys) (suc place) x at = ap (λ (ids : List ℕ). y.id ∷ ids) (set_there ys place x at)

inserted_ids : (live : List Listing) (place : ℕ) (x : Listing) → ids_of (insert live place x) ≡ insert (ids_of live) place x.id
inserted_ids [] zero x = refl
inserted_ids [] (suc place) x = refl
inserted_ids (y ∷ ys) zero x = refl
inserted_ids (y ∷ ys) (suc place) x = ap (λ (ids : List ℕ). y.id ∷ ids) (inserted_ids ys place x)

in_set : (live : List Listing) (place : ℕ) (x : Listing) → (l : Listing) → In l (set live place x) → (l ≡ x) ⊎ In l live
in_set [] place x l none = absurd none
in_set (y ∷ ys) zero x l (inl same) = inl same
in_set (y ∷ ys) zero x l (inr later) = inr (inr later)
in_set (y ∷ ys) (suc place) x l (inl same) = inr (inl same)
in_set (y ∷ ys) (suc place) x l (inr later) = elim (in_set ys place x l later) [ inl same ↦ inl same | inr there ↦ inr (inr there) ]

set_in : (live : List Listing) (place id : ℕ) (x : Listing) → slice_get (ids_of live) place ≡ Some id → In x (set live place x)
set_in [] place id x at = absurd (cc)
set_in (y ∷ ys) zero id x at = inl refl
set_in (y ∷ ys) (suc place) id x at = inr (set_in ys place id x at)

in_insert : (live : List Listing) (place : ℕ) (x : Listing) → (l : Listing) → In l (insert live place x) → (l ≡ x) ⊎ In l live
in_insert [] zero x l (inl same) = inl same
in_insert [] zero x l (inr none) = absurd none
in_insert [] (suc place) x l (inl same) = inl same
in_insert [] (suc place) x l (inr none) = absurd none
in_insert (y ∷ ys) zero x l (inl same) = inl same
in_insert (y ∷ ys) zero x l (inr later) = inr later
in_insert (y ∷ ys) (suc place) x l (inl same) = inr (inl same)
in_insert (y ∷ ys) (suc place) x l (inr later) = elim (in_insert ys place x l later) [ inl same ↦ inl same | inr there ↦ inr (inr there) ]

insert_in : (live : List Listing) (place : ℕ) (x : Listing) → In x (insert live place x)
insert_in [] zero x = inl refl
insert_in [] (suc place) x = inl refl
insert_in (y ∷ ys) zero x = inl refl
insert_in (y ∷ ys) (suc place) x = inr (insert_in ys place x)

-- it is awake, and the others are as they were
abbrev pub AreWoken : ℕ → List Listing → List Listing → Type 0
AreWoken id old new = (l : Listing) → In l new → ((l.id ≡ id) × (l.until ≡ None)) ⊎ (In l old × (l.id ≡ id → ⊥))

woken : (old new : List Listing) (x : Listing) → x.until ≡ None → AreRising (ids_of new) → In x new → ((l : Listing) → In l new → (l ≡ x) ⊎ In l old) →
    AreWoken x.id old new
woken old new x awake rise there from l among = elim (cases_Bool (l.id == x.id)) [
  | inl same ↦
      let ids : l.id ≡ x.id = (Decides-eqb l.id x.id).0 same in
      inl (ids, ap (λ (it : Listing). it.until) (only_one new rise l x among there ids) ∙ awake)
  | inr differs ↦
      let apart : l.id ≡ x.id → ⊥ = λ ids. true≢false (sym (eq-eqb l.id x.id ids) ∙ differs) in
      elim (from l among) [ inl same ↦ absurd (apart (ap (λ (it : Listing). it.id) same)) | inr was ↦ inr (was, apart) ]
]

pub put_there : (live : List Listing) (place id : ℕ) → IsPlaceOf (ids_of live) id (Ok place) →
    ids_of (set live place (record { id = id; until = None })) ≡ insert_key nat_cmp (ids_of live) id
put_there live place id at = set_there live place (record { id = id; until = None }) at.1.0 ∙ sym at.0

pub woken_there : (live : List Listing) (place id : ℕ) → AreRising (ids_of live) → IsPlaceOf (ids_of live) id (Ok place) →
    AreWoken id live (set live place (record { id = id; until = None }))
woken_there live place id rise at =
    let x : Listing = record { id = id; until = None } in
    woken live (set live place x) x refl (subst AreRising (sym (set_there live place x at.1.0)) rise) (set_in live place id x at.1.0) (in_set live place x)

pub put_between : (live : List Listing) (place id : ℕ) → IsPlaceOf (ids_of live) id (Err place) →
    ids_of (insert live place (record { id = id; until = None })) ≡ insert_key nat_cmp (ids_of live) id
put_between live place id at = inserted_ids live place (record { id = id; until = None }) ∙ sym at.0

pub woken_between : (live : List Listing) (place id : ℕ) → AreRising (insert_key nat_cmp (ids_of live) id) → IsPlaceOf (ids_of live) id (Err place) →
    AreWoken id live (insert live place (record { id = id; until = None }))
woken_between live place id rise at =
    let x : Listing = record { id = id; until = None } in
    woken live (insert live place x) x refl (subst AreRising (sym (put_between live place id at)) rise) (insert_in live place x) (in_insert live place x)

-- ---- those that are due

next_cut : (x : ℕ) (xs : List ℕ) (id : ℕ) → IsCut (x ∷ xs) id zero → IsCut xs id zero
next_cut x xs id cut = record {
  within = omega arith;
  before = λ other d lower. absurd (omega (arith, lower));
  behind = λ other d from within. cut.behind (suc other) d (omega arith) (omega (arith, within));
}

none_due : (clock : ℕ) (id : ℕ) → IsDueIn clock [] id → ⊥
none_due clock id is = is.among

-- the first of them is this one, or stands behind it
due_later : (clock : ℕ) (x : Listing) (xs : List Listing) (id : ℕ) → IsDueIn clock (x ∷ xs) id → ((x.id ≡ id) × (is_due clock x ≡ true)) ⊎ IsDueIn clock xs id
due_later clock x xs id is = elim is.among [
  | inl same ↦ inl (sym (ap (λ (l : Listing). l.id) same) ∙ is.named, sym (ap (is_due clock) same) ∙ is.due)
  | inr later ↦ inr (record { listing = is.listing; among = later; named = is.named; due = is.due })
]

later_due : (clock : ℕ) (x : Listing) (xs : List Listing) (id : ℕ) → IsDueIn clock xs id → IsDueIn clock (x ∷ xs) id
later_due clock x xs id is = record { listing = is.listing; among = inr is.among; named = is.named; due = is.due }

due_above : (clock : ℕ) (x : Listing) (xs : List Listing) → AreRising (ids_of (x ∷ xs)) → (id : ℕ) → IsDueIn clock xs id → x.id < id
due_above clock x xs rise id is =
    subst (λ (n : ℕ). x.id < n) is.named (each (λ (n : ℕ). x.id < n) (ids_of xs) rise.0 is.listing.id (id_in is.listing xs is.among))

skipped : (clock from : ℕ) (x : Listing) (xs : List Listing) → ((id : ℕ) → (x.id ≡ id) × (is_due clock x ≡ true) → id < from) →
    (found : Option ℕ) → IsLeastFrom from (IsDueIn clock xs) found → IsLeastFrom from (IsDueIn clock (x ∷ xs)) found
skipped clock from x xs lower None least = λ id is. elim (due_later clock x xs id is) [ inl here ↦ lower id here | inr later ↦ least id later ]
skipped clock from x xs lower (Some found) least = (
  later_due clock x xs found least.0,
  (
    least.1.0,
    λ id is above. elim (due_later clock x xs id is) [
      | inl here ↦ let under = lower id here in absurd (omega (arith, under, above))
      | inr later ↦ least.1.1 id later above
    ],
  ),
)

pub first_from : (clock from : ℕ) (live : List Listing) (place : ℕ) → AreRising (ids_of live) → IsCut (ids_of live) from place →
    IsLeastFrom from (IsDueIn clock live) (option_map (λ (l : Listing). l.id) (find (is_due clock) (drop place live)))
first_from clock from [] zero rise cut = λ id is. absurd (none_due clock id is)
first_from clock from [] (suc place) rise cut = λ id is. absurd (none_due clock id is)
first_from clock from (x ∷ xs) (suc place) rise cut =
    let below : x.id < from = cut.before zero zero (omega arith) in
    skipped clock from x xs (λ id here. let same = here.0 in omega (arith, below, same)) _
    (first_from clock from xs place rise.1 (tail_cut x.id (ids_of xs) from place cut))
first_from clock from (x ∷ xs) zero rise cut = by_test (is_due clock x) refl (first_from clock from xs zero rise.1 (next_cut x.id (ids_of xs) from cut))
  where
    above : from ≤ x.id
    above = cut.behind zero zero (omega arith) (omega arith)

    by_test : (test : Bool) → is_due clock x ≡ test → IsLeastFrom from (IsDueIn clock xs) (option_map (λ (l : Listing). l.id) (find (is_due clock) xs)) →
        IsLeastFrom from (IsDueIn clock (x ∷ xs)) (option_map (λ (l : Listing). l.id) (cond test (Some x) (find (is_due clock) xs)))
    by_test true due rest = (
      record { listing = x; among = inl refl; named = refl; due = due },
      (
        above,
        λ id is from_there. elim (due_later clock x xs id is) [
          | inl here ↦ let same = here.0 in omega (arith, same)
          | inr later ↦ let higher = due_above clock x xs rise id later in omega (arith, higher)
        ],
      ),
    )
    by_test false due rest = skipped clock from x xs (λ id here. absurd (true≢false (sym here.1 ∙ due))) _ rest

-- ---- those that stay listed

pub rise_listed : (test : Listing → Bool) (live : List Listing) → AreRising (ids_of live) → AreRising (ids_of (filter test live))
rise_listed test [] rise = tt
rise_listed test (x ∷ xs) rise = by_test (test x) (rise_listed test xs rise.1)
  where
    above : (ys : List Listing) → AllByRecursion (λ (y : ℕ). x.id < y) (ids_of ys) → AllByRecursion (λ (y : ℕ). x.id < y) (ids_of (filter test ys))
    above [] all = tt
    above (y ∷ ys) all = by_one (test y) (above ys all.1)
      where
        by_one : (is : Bool) → AllByRecursion (λ (z : ℕ). x.id < z) (ids_of (filter test ys)) →
            AllByRecursion (λ (z : ℕ). x.id < z) (ids_of (cond is (y ∷ filter test ys) (filter test ys)))
        by_one true rest = (all.0, rest)
        by_one false rest = rest

    by_test : (is : Bool) → AreRising (ids_of (filter test xs)) → AreRising (ids_of (cond is (x ∷ filter test xs) (filter test xs)))
    by_test true rest = (above xs rise.0, rest)
    by_test false rest = rest

pub was_listed : (test : Listing → Bool) (live : List Listing) (l : Listing) → In l (filter test live) → In l live
was_listed test [] l none = absurd none
was_listed test (x ∷ xs) l among = by_test (test x) among (was_listed test xs l)
  where
    by_test : (is : Bool) → In l (cond is (x ∷ filter test xs) (filter test xs)) → (In l (filter test xs) → In l xs) → (l ≡ x) ⊎ In l xs
    by_test true (inl same) rest = inl same
    by_test true (inr later) rest = inr (rest later)
    by_test false later rest = inr (rest later)

pub stays_listed : (test : Listing → Bool) (live : List Listing) (l : Listing) → In l live → test l ≡ true → In l (filter test live)
stays_listed test [] l none is = absurd none
stays_listed test (x ∷ xs) l (inl same) is = let here : test x ≡ true = ap test (sym same) ∙ is in rw here (inl same)
stays_listed test (x ∷ xs) l (inr later) is = by_test (test x) (stays_listed test xs l later is)
  where
    by_test : (it : Bool) → In l (filter test xs) → In l (cond it (x ∷ filter test xs) (filter test xs))
    by_test true rest = inr rest
    by_test false rest = rest

-- ---- each is looked at

pub mapped_from : (f : Listing → Listing) (live : List Listing) (l : Listing) → In l (map f live) → (x : Listing) × (In x live) × (f x ≡ l)
mapped_from f [] l none = absurd none
mapped_from f (x ∷ xs) l (inl same) = (x, inl refl, sym same)
mapped_from f (x ∷ xs) l (inr later) = let there = mapped_from f xs l later in (there.0, inr there.1, there.2)

pub mapped_ids : (f : Listing → Listing) → ((l : Listing) → (f l).id ≡ l.id) → (live : List Listing) → ids_of (map f live) ≡ ids_of live
mapped_ids f same [] = refl
mapped_ids f same (x ∷ xs) = λ i. same x i ∷ mapped_ids f same xs i

pub take_all : {A : Type 0} (n : ℕ) (items : List A) → length items ≤ n → take n items ≡ items
take_all zero [] most = refl
take_all zero (x ∷ xs) most = absurd (omega (arith, most))
take_all (suc n) [] most = refl
take_all (suc n) (x ∷ xs) most = ap (λ (ys : List _). x ∷ ys) (take_all n xs (omega (arith, most)))

pub first_behind : (clock from : ℕ) (live : List Listing) (place : ℕ) (found : Option ℕ) → AreRising (ids_of live) → IsCut (ids_of live) from place →
    found ≡ option_map (λ (l : Listing). l.id) (find (is_due clock) (take (length live - place) (drop place live))) →
    IsLeastFrom from (IsDueIn clock live) found
first_behind clock from live place found rise cut is =
    let all = take_all (length live - place) (drop place live) (omega (arith, length-drop place live)) in
    subst (IsLeastFrom from (IsDueIn clock live))
    (sym (is ∙ ap (λ (ls : List Listing). option_map (λ (l : Listing). l.id) (find (is_due clock) ls)) all))
    (first_from clock from live place rise cut)

pub changed_one : (f : Listing → Listing) (old items : List Listing) (place : ℕ) (item new : Listing) → place < length items → items ≡ changed_to f place old →
    new ≡ f (get_or items place item) → set items place new ≡ changed_to f (place + 1) old
changed_one f old items place item new within before changes =
    let many : length items ≡ length old = ap length before ∙ changed_length f place old in
    let read : get_or items place item ≡ get_or old place item = ap (λ (ls : List Listing). get_or ls place item) before ∙ next_is f place old item in
    let more : suc place ≡ place + 1 = omega arith in
    (λ i. set (before i) place ((changes ∙ ap f read) i)) ∙ one_more f place old item (omega (arith, within, many)) ∙ ap (λ (n : ℕ). changed_to f n old) more
