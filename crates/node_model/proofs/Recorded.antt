-- The messages of which there is a record are those that are computed.
use Rattle.std.proofs.Common.{◌≡◌, ◌≢◌, ℕ, zero, suc, ◌<◌, Bool, true, false, List, [], ◌∷◌, Option, Some, None, refl, sym, ap, ◌∙◌, inl, inr, arith}
use Rattle.std.specs.Prelude.{◌==◌, ◌||◌, not, is_some}
use Rattle.std.specs.List.{AllByRecursion}
use Rattle.std.specs.List.Sorted.{IsStrictlySortedBy}
use Rattle.std.specs.Ordering.{nat_cmp}
use Rattle.std.specs.declared.cmp.Ordering.TheVariants.{Less}
use Rattle.std.proofs.lemmas.Bool.{and_parts, cases_Bool, eqb-true, true≢false}
use Rattle.std.proofs.lemmas.Bool.Decides.{nat_tests}
use Rattle.std.proofs.lemmas.List.Kept.{IsStrictlySortedBy-filter}
use Rattle.mc_model.specs.synod.Lists.{In}
use Rattle.mc_model.specs.synod.OneSlot.{Vote}
use Rattle.mc_model.specs.synod.Packet.{slot_at}
use Rattle.mc_model.specs.synod.Acceptor.{Records, SlotRecord, blank}
use Rattle.node_model.specs.Recorded.{AreRecorded, IsRecorded, has_record, is_blank, named_places, recorded_in}
use Rattle.node_model.proofs.Filters.{filter_in, filter_passes}

-- ---- one record

none_is : (vote : Option Vote) → not (is_some vote) ≡ true → vote ≡ None
none_is None is = refl
none_is (Some vote) is = absurd (true≢false (sym is))

blank_is : (r : SlotRecord) → is_blank r ≡ true → r ≡ blank
blank_is r is =
    let parts = and_parts (r.promised == 0) (not (is_some r.vote)) is in
    let promised : r.promised ≡ 0 = eqb-true r.promised 0 parts.0 in
    let vote : r.vote ≡ None = none_is r.vote parts.1 in
    λ i. record { promised = promised i; vote = vote i }

differs_so : (r : SlotRecord) → is_blank r ≡ false → r ≢ blank
differs_so r not_blank same = true≢false (sym (ap is_blank same) ∙ not_blank)

-- ---- one message

pub found_below : (records : Records) (id below : ℕ) → has_record records id below ≡ true → (place : ℕ) × (place < below) × (records (slot_at id place) ≢ blank)
unfolding has_record
found_below records id zero is = absurd (true≢false (sym is))
found_below records id (suc below) is = elim (cases_Bool (is_blank (records (slot_at id below)))) [
  | inl nothing ↦
      let (place, within, differs) = found_below records id below (sym (ap (λ (b : Bool). not b || has_record records id below) nothing) ∙ is) in
      (place, omega (arith, within), differs)
  | inr other ↦ (below, omega arith, differs_so (records (slot_at id below)) other)
]

pub below_found : (records : Records) (id below place : ℕ) → place < below → records (slot_at id place) ≢ blank → has_record records id below ≡ true
unfolding has_record
below_found records id zero place within differs = absurd (omega (arith, within))
below_found records id (suc below) place within differs = elim (cases_Bool (is_blank (records (slot_at id below)))) [
  | inl nothing ↦
      ap (λ (b : Bool). not b || has_record records id below) nothing
      ∙ below_found records id below place (before (blank_is (records (slot_at id below)) nothing)) differs
  | inr other ↦ ap (λ (b : Bool). not b || has_record records id below) other
]
  where
    before : records (slot_at id below) ≡ blank → place < below
    before nothing = elim (cases_Bool (place == below)) [
      | inl same ↦ absurd (differs (ap (λ (n : ℕ). records (slot_at id n)) (eqb-true place below same) ∙ nothing))
      | inr apart ↦ grind (arith, nat_tests)
    ]

-- ---- all

pub are_recorded : (records : Records) (ids : List ℕ) → IsStrictlySortedBy nat_cmp ids → ((id : ℕ) → IsRecorded records id → In id ids) →
    AreRecorded records (recorded_in records ids)
are_recorded records ids ascend all = record {
  ascend = IsStrictlySortedBy-filter nat_cmp (λ id. has_record records id named_places) ids ascend;
  each = λ id among. found_below records id named_places (filter_passes (λ id. has_record records id named_places) ids id among);
  all = λ id is. filter_in (λ id. has_record records id named_places) ids id (all id is) (below_found records id named_places is.0 is.1 is.2);
}

above : (x y : ℕ) (xs : List ℕ) → AllByRecursion (λ z. nat_cmp x z ≡ Less) xs → In y xs → x < y
above x y [] all none = absurd none
above x y (z ∷ xs) all (inl same) = let less : nat_cmp x z ≡ Less = all.0 in grind (arith, nat_tests)
above x y (z ∷ xs) all (inr later) = above x y xs all.1 later

same_first : (x y : ℕ) (xs ys : List ℕ) → AllByRecursion (λ z. nat_cmp x z ≡ Less) xs → AllByRecursion (λ z. nat_cmp y z ≡ Less) ys →
    In x (y ∷ ys) → In y (x ∷ xs) → x ≡ y
same_first x y xs ys below_xs below_ys (inl same) there = same
same_first x y xs ys below_xs below_ys (inr later) (inl same) = sym same
same_first x y xs ys below_xs below_ys (inr later) (inr other) =
    let one = above y x ys below_ys later in let two = above x y xs below_xs other in absurd (omega (arith, one, two))

rest_in : (x y z : ℕ) (xs ys : List ℕ) → x ≡ y → AllByRecursion (λ z. nat_cmp x z ≡ Less) xs → In z xs → In z (y ∷ ys) → In z ys
rest_in x y z xs ys same below later (inl first) = let more = above x z xs below later in absurd (omega (arith, same, first, more))
rest_in x y z xs ys same below later (inr rest) = rest

-- lists of the same numbers, each ascending, are the same
pub one_list : (xs ys : List ℕ) → IsStrictlySortedBy nat_cmp xs → IsStrictlySortedBy nat_cmp ys →
    ((z : ℕ) → In z xs → In z ys) → ((z : ℕ) → In z ys → In z xs) → xs ≡ ys
unfolding IsStrictlySortedBy
one_list [] [] sorted_xs sorted_ys there back = refl
one_list [] (y ∷ ys) sorted_xs sorted_ys there back = absurd (back y (inl refl))
one_list (x ∷ xs) [] sorted_xs sorted_ys there back = absurd (there x (inl refl))
one_list (x ∷ xs) (y ∷ ys) sorted_xs sorted_ys there back =
    let same : x ≡ y = same_first x y xs ys sorted_xs.0 sorted_ys.0 (there x (inl refl)) (back y (inl refl)) in
    let rest : xs ≡ ys = one_list xs ys sorted_xs.1 sorted_ys.1
    (λ z later. rest_in x y z xs ys same sorted_xs.0 later (there z (inr later)))
    (λ z later. rest_in y x z ys xs (sym same) sorted_ys.0 later (back z (inr later))) in
    λ i. same i ∷ rest i

pub recorded_once : (records : Records) (one other : List ℕ) → AreRecorded records one → AreRecorded records other → one ≡ other
recorded_once records one other are also =
    one_list one other are.ascend also.ascend (λ id among. also.all id (are.each id among)) (λ id among. are.all id (also.each id among))
