-- Ids that ascend: where one stands among them, and the list of the messages that are live.
use Rattle.std.proofs.Common.{◌≡◌, ◌⊎◌, ℕ, zero, suc, ◌<◌, ◌≤◌, Bool, true, false, cond, List, [], ◌∷◌, length, get_or, Option, Some, None}
use Rattle.std.proofs.Common.{Result, Ok, Err, refl, sym, ap, ◌∙◌, inl, inr, arith}
use Rattle.std.specs.Prelude.{filter}
use Rattle.std.specs.BTreeSet.{insert_key}
use Rattle.std.specs.List.{AllByRecursion, insert, slice_get}
use Rattle.std.specs.List.Sorted.{IsBinarySearchResult, IsNonDecreasingBy, IsSearchInRange}
use Rattle.std.specs.Ordering.{nat_cmp, ordering_index}
use Rattle.std.specs.declared.cmp.Ordering.TheVariants.{Less, Equal, Greater}
use Rattle.std.proofs.lemmas.Bool.Decides.{nat_tests}
use Rattle.std.proofs.lemmas.Cmp.{ranked}
use Rattle.mc_model.specs.synod.Lists.{In}
use Rattle.waiting_requests.specs.Numbers.{IsLeastFrom}
use Rattle.node_parts.specs.Rising.{AreRising, IsCut, IsPlaceOf}
use Rattle.node_parts.proofs.Rising.{each}

-- ---- one after another

in_place : (ids : List ℕ) (place d : ℕ) → place < length ids → In (get_or ids place d) ids
in_place [] place d within = absurd (omega (arith, within))
in_place (x ∷ xs) zero d within = inl refl
in_place (x ∷ xs) (suc place) d within = inr (in_place xs place d (omega (arith, within)))

rises : (ids : List ℕ) (one other d : ℕ) → AreRising ids → one < other → other < length ids → get_or ids one d < get_or ids other d
rises [] one other d rise lower within = absurd (omega (arith, within))
rises (x ∷ xs) one zero d rise lower within = absurd (omega (arith, lower))
rises (x ∷ xs) zero (suc other) d rise lower within = each (λ (y : ℕ). x < y) xs rise.0 (get_or xs other d) (in_place xs other d (omega (arith, within)))
rises (x ∷ xs) (suc one) (suc other) d rise lower within = rises xs one other d rise.1 (omega (arith, lower)) (omega (arith, within))

-- ---- where an id stands, or would go

pub tail_cut : (x : ℕ) (xs : List ℕ) (id place : ℕ) → IsCut (x ∷ xs) id (suc place) → IsCut xs id place
tail_cut x xs id place cut = record {
  within = let w = cut.within in omega (arith, w);
  before = λ other d lower. cut.before (suc other) d (omega (arith, lower));
  behind = λ other d from within. cut.behind (suc other) d (omega (arith, from)) (omega (arith, within));
}

pub least_at : (ids : List ℕ) (id place : ℕ) → AreRising ids → IsCut ids id place → IsLeastFrom id (λ other. In other ids) (slice_get ids place)
least_at [] id place rise cut = λ other none. absurd none
least_at (x ∷ xs) id zero rise cut = (inl refl, (cut.behind zero zero (omega arith) (omega arith), λ other among from. first other among))
  where
    first : (other : ℕ) → (other ≡ x) ⊎ In other xs → x ≤ other
    first other (inl same) = omega (arith, same)
    first other (inr later) = let above = each (λ (y : ℕ). x < y) xs rise.0 other later in omega (arith, above)
least_at (x ∷ xs) id (suc place) rise cut = by_found (slice_get xs place) (least_at xs id place rise.1 (tail_cut x xs id place cut))
  where
    below : x < id
    below = cut.before zero zero (omega arith)

    by_found : (found : Option ℕ) → IsLeastFrom id (λ other. In other xs) found → IsLeastFrom id (λ other. (other ≡ x) ⊎ In other xs) found
    by_found None least = λ other among. elim among [ inl same ↦ omega (arith, same, below) | inr later ↦ least other later ]
    by_found (Some found) least = (inr least.0, (least.1.0, λ other among from. elim among [ inl same ↦ absurd (omega (arith, same, below, from)) | inr later ↦ least.1.1 other later from ]))

put_there : (ids : List ℕ) (id place d : ℕ) → AreRising ids → place < length ids → get_or ids place d ≡ id → insert_key nat_cmp ids id ≡ ids
put_there [] id place d rise within same = absurd (omega (arith, within))
put_there (x ∷ xs) id zero d rise within same = let equal : nat_cmp id x ≡ Equal = grind (arith, nat_tests) in rw equal refl
put_there (x ∷ xs) id (suc place) d rise within same =
    let above = each (λ (y : ℕ). x < y) xs rise.0 (get_or xs place d) (in_place xs place d (omega (arith, within))) in
    let greater : nat_cmp id x ≡ Greater = grind (arith, nat_tests) in
    rw greater (ap (λ (ys : List ℕ). x ∷ ys) (put_there xs id place d rise.1 (omega (arith, within)) same))

put_between : (ids : List ℕ) (id place : ℕ) → IsCut ids id place → ((other d : ℕ) → place ≤ other → other < length ids → id < get_or ids other d) →
    insert_key nat_cmp ids id ≡ insert ids place id
put_between [] id zero cut above = refl
put_between [] id (suc place) cut above = absurd (let w = cut.within in omega (arith, w))
put_between (x ∷ xs) id zero cut above =
    let higher : id < x = above zero zero (omega arith) (omega arith) in
    let less : nat_cmp id x ≡ Less = grind (arith, nat_tests) in
    rw less refl
put_between (x ∷ xs) id (suc place) cut above =
    let lower : x < id = cut.before zero zero (omega arith) in
    let greater : nat_cmp id x ≡ Greater = grind (arith, nat_tests) in
    rw greater (ap (λ (ys : List ℕ). x ∷ ys) (put_between xs id place (tail_cut x xs id place cut)
    (λ other d from within. above (suc other) d (omega (arith, from)) (omega (arith, within)))))

never_falls : (ids : List ℕ) (one other d : ℕ) → AreRising ids → one ≤ other → other < length ids → get_or ids one d ≤ get_or ids other d
never_falls ids one other d rise from within = grind (arith, rises ids one other d rise, λ (same : one ≡ other). ap (λ (k : ℕ). get_or ids k d) same)

found_at : (ids : List ℕ) (place d : ℕ) → place < length ids → slice_get ids place ≡ Some (get_or ids place d)
found_at [] place d within = absurd (omega (arith, within))
found_at (x ∷ xs) zero d within = refl
found_at (x ∷ xs) (suc place) d within = found_at xs place d (omega (arith, within))

pub searched : (ids : List ℕ) (id : ℕ) → AreRising ids → (found : Result ℕ ℕ) → IsSearchInRange found (length ids) →
    IsBinarySearchResult (λ (other : ℕ). nat_cmp other id) ids found → IsPlaceOf ids id found
searched ids id rise (Ok place) within equal =
    let here : (d : ℕ) → get_or ids place d ≡ id = λ d. ranked _ id _ (sym (equal d)) in (
      put_there ids id place zero rise within (here zero),
      (
        found_at ids place zero within ∙ ap (λ (n : ℕ). Some n) (here zero),
        record {
          within = omega (arith, within);
          before = λ other d lower. let less = rises ids other place d rise lower within in let at = here d in omega (arith, less, at);
          behind = λ other d from inside. let more = never_falls ids place other d rise from inside in let at = here d in omega (arith, more, at);
        },
      ),
    )
searched ids id rise (Err place) within parted =
    let compare : IsNonDecreasingBy (λ (other : ℕ). ordering_index (nat_cmp other id)) ids =
    (λ one other d from inside. let ids_rise : get_or ids one d ≤ get_or ids other d = never_falls ids one other d rise from inside in grind
    (arith, nat_tests)) in
    let above : (other d : ℕ) → place ≤ other → other < length ids → id < get_or ids other d =
    (λ other d from inside. ranked _ id _ (sym ((parted compare).1 other d from inside))) in
    let cut : IsCut ids id place = record {
      within = omega (arith, within);
      before = λ other d lower. ranked _ id _ (sym ((parted compare).0 other d (omega (arith, lower, within)) lower));
      behind = λ other d from inside. let more = above other d from inside in omega (arith, more);
    } in
    (put_between ids id place cut above, cut)

-- ---- how many they are

pub no_more : (ids others : List ℕ) → AreRising ids → AreRising others → ((id : ℕ) → In id ids → In id others) → length ids ≤ length others
no_more [] others rise rises within = omega arith
no_more (x ∷ xs) [] rise rises within = absurd (within x (inl refl))
no_more (x ∷ xs) (y ∷ ys) rise rises within = elim (within x (inl refl)) [
  | inl same ↦
      let rest = no_more xs ys rise.1 rises.1 (λ id among. elim (within id (inr among)) [
        | inl first ↦ let above = each (λ (z : ℕ). x < z) xs rise.0 id among in absurd (omega (arith, above, same, first))
        | inr later ↦ later
      ]) in
      omega (arith, rest)
  | inr there ↦
      let above_x = each (λ (z : ℕ). y < z) ys rises.0 x there in
      let rest = no_more (x ∷ xs) ys rise rises.1 (λ id among. elim (within id among) [
        | inl first ↦ elim among [
          | inl same ↦ absurd (omega (arith, above_x, same, first))
          | inr later ↦ let above = each (λ (z : ℕ). x < z) xs rise.0 id later in absurd (omega (arith, above, above_x, first))
        ]
        | inr later ↦ later
      ]) in
      omega (arith, rest)
]

-- ---- those that stay

pub all_stay_above : (low : ℕ) (test : ℕ → Bool) (ids : List ℕ) → AllByRecursion (λ (y : ℕ). low < y) ids →
    AllByRecursion (λ (y : ℕ). low < y) (filter test ids)
all_stay_above low test [] all = tt
all_stay_above low test (x ∷ xs) all = by_test (test x) (all_stay_above low test xs all.1)
  where
    by_test : (is : Bool) → AllByRecursion (λ (y : ℕ). low < y) (filter test xs) →
        AllByRecursion (λ (y : ℕ). low < y) (cond is (x ∷ filter test xs) (filter test xs))
    by_test true rest = (all.0, rest)
    by_test false rest = rest

pub rise_still : (test : ℕ → Bool) (ids : List ℕ) → AreRising ids → AreRising (filter test ids)
rise_still test [] rise = tt
rise_still test (x ∷ xs) rise = by_test (test x) (rise_still test xs rise.1)
  where
    by_test : (is : Bool) → AreRising (filter test xs) → AreRising (cond is (x ∷ filter test xs) (filter test xs))
    by_test true rest = (all_stay_above x test xs rise.0, rest)
    by_test false rest = rest

pub was_in : (test : ℕ → Bool) (ids : List ℕ) (id : ℕ) → In id (filter test ids) → In id ids
was_in test [] id none = absurd none
was_in test (x ∷ xs) id among = by_test (test x) among (was_in test xs id)
  where
    by_test : (is : Bool) → In id (cond is (x ∷ filter test xs) (filter test xs)) → (In id (filter test xs) → In id xs) → (id ≡ x) ⊎ In id xs
    by_test true (inl same) rest = inl same
    by_test true (inr later) rest = inr (rest later)
    by_test false later rest = inr (rest later)

pub stays_in : (test : ℕ → Bool) (ids : List ℕ) (id : ℕ) → In id ids → test id ≡ true → In id (filter test ids)
stays_in test [] id none is = absurd none
stays_in test (x ∷ xs) id (inl same) is = let here : test x ≡ true = ap test (sym same) ∙ is in rw here (inl same)
stays_in test (x ∷ xs) id (inr later) is = by_test (test x) (stays_in test xs id later is)
  where
    by_test : (it : Bool) → In id (filter test xs) → In id (cond it (x ∷ filter test xs) (filter test xs))
    by_test true rest = inr rest
    by_test false rest = rest
