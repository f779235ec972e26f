-- Each number has a slip if each mark is set.
use Rattle.std.proofs.Common.{◌≡◌, ◌⊎◌, ℕ, zero, suc, ◌+◌, ◌≤◌, ◌<◌, Bool, true, false, List, [], ◌∷◌, length, Some, IsTrue}
use Rattle.std.proofs.Common.{refl, sym, ap, subst, ◌∙◌, inl, inr, arith, set}
use Rattle.std.specs.Prelude.{◌&&◌, ◌↔◌, replicate, slice_get}
use Rattle.std.specs.List.{list_all}
use Rattle.std.proofs.lemmas.Bool.{and_from}
use Rattle.mc_model.specs.synod.Lists.{In}
use Rattle.journal_parts.specs.Marks.{EachOnce, HasSlip, mark_at, marked_by, marked_in, slips_in}
use Rattle.journal_parts.specs.Slips.{Seated, Slipped}

-- ---- one mark

set_here : (marks : List Bool) (place : ℕ) → place < length marks → slice_get (set marks place true) place ≡ Some true
set_here [] place below = absurd (omega (arith, below))
set_here (mark ∷ marks) zero below = refl
set_here (mark ∷ marks) (suc place) below = set_here marks place (omega (arith, below))

set_other : (marks : List Bool) (place other : ℕ) → slice_get (set marks place true) other ≡ Some true →
    (slice_get marks other ≡ Some true) ⊎ (other ≡ place)
set_other [] place other is = inl is
set_other (mark ∷ marks) zero zero is = inr refl
set_other (mark ∷ marks) zero (suc other) is = inl is
set_other (mark ∷ marks) (suc place) zero is = inl is
set_other (mark ∷ marks) (suc place) (suc other) is = elim (set_other marks place other is) [ inl was ↦ inl was | inr same ↦ inr (ap suc same) ]

set_stays : (marks : List Bool) (place other : ℕ) → slice_get marks other ≡ Some true → slice_get (set marks place true) other ≡ Some true
set_stays [] place other is = is
set_stays (mark ∷ marks) zero zero is = refl
set_stays (mark ∷ marks) zero (suc other) is = is
set_stays (mark ∷ marks) (suc place) zero is = is
set_stays (mark ∷ marks) (suc place) (suc other) is = set_stays marks place other is

set_long : (marks : List Bool) (place : ℕ) → length (set marks place true) ≡ length marks
set_long [] place = refl
set_long (mark ∷ marks) zero = refl
set_long (mark ∷ marks) (suc place) = ap suc (set_long marks place)

-- ---- a number's mark

at_long : (number : ℕ) (marks : List Bool) → length (mark_at number marks) ≡ length marks
at_long zero marks = refl
at_long (suc place) marks = set_long marks place

at_stays : (number other : ℕ) (marks : List Bool) → slice_get marks other ≡ Some true → slice_get (mark_at number marks) other ≡ Some true
at_stays zero other marks is = is
at_stays (suc place) other marks is = set_stays marks place other is

at_here : (number other : ℕ) (marks : List Bool) → other < length marks → number ≡ other + 1 → slice_get (mark_at number marks) other ≡ Some true
at_here zero other marks below is = absurd (omega (arith, is))
at_here (suc place) other marks below is =
    let same : place ≡ other = omega (arith, is) in
    subst (λ (p : ℕ). slice_get (set marks p true) other ≡ Some true) (sym same) (set_here marks other below)

at_other : (number other : ℕ) (marks : List Bool) → slice_get (mark_at number marks) other ≡ Some true →
    (slice_get marks other ≡ Some true) ⊎ (number ≡ other + 1)
at_other zero other marks is = inl is
at_other (suc place) other marks is = elim (set_other marks place other is) [ inl was ↦ inl was | inr same ↦ inr (omega (arith, same)) ]

-- ---- those of slips

record IsOne (number : ℕ) (slips : List Slipped) : Type 0 where
  pub slip : Slipped
  pub one : In slip slips
  pub is : slip.number ≡ number

by_long : (slips : List Slipped) (marks : List Bool) → length (marked_by slips marks) ≡ length marks
by_long [] marks = refl
by_long (slip ∷ later) marks = by_long later (mark_at slip.number marks) ∙ at_long slip.number marks

by_stays : (slips : List Slipped) (marks : List Bool) (other : ℕ) → slice_get marks other ≡ Some true → slice_get (marked_by slips marks) other ≡ Some true
by_stays [] marks other is = is
by_stays (slip ∷ later) marks other is = by_stays later (mark_at slip.number marks) other (at_stays slip.number other marks is)

by_here : (slips : List Slipped) (marks : List Bool) (other : ℕ) (slip : Slipped) → other < length marks → In slip slips → slip.number ≡ other + 1 →
    slice_get (marked_by slips marks) other ≡ Some true
by_here [] marks other slip below none is = absurd none
by_here (first ∷ later) marks other slip below (inl same) is =
    by_stays later (mark_at first.number marks) other
    (at_here first.number other marks below (ap (λ (s : Slipped). s.number) (sym same) ∙ is))
by_here (first ∷ later) marks other slip below (inr among) is =
    by_here later (mark_at first.number marks) other slip (subst (λ (n : ℕ). other < n) (sym (at_long first.number marks)) below) among is

by_other : (slips : List Slipped) (marks : List Bool) (other : ℕ) → slice_get (marked_by slips marks) other ≡ Some true →
    (slice_get marks other ≡ Some true) ⊎ IsOne (other + 1) slips
by_other [] marks other is = inl is
by_other (slip ∷ later) marks other is = elim (by_other later (mark_at slip.number marks) other is) [
  | inl was ↦ elim (at_other slip.number other marks was) [
    | inl before ↦ inl before
    | inr here ↦ inr (record { slip = slip; one = inl refl; is = here })
  ]
  | inr it ↦ inr (record { slip = it.slip; one = inr it.one; is = it.is })
]

-- ---- those of seats

in_long : (seats : List Seated) (marks : List Bool) → length (marked_in seats marks) ≡ length marks
in_long [] marks = refl
in_long (seat ∷ later) marks = in_long later (marked_by seat.slips marks) ∙ by_long seat.slips marks

in_stays : (seats : List Seated) (marks : List Bool) (other : ℕ) → slice_get marks other ≡ Some true → slice_get (marked_in seats marks) other ≡ Some true
in_stays [] marks other is = is
in_stays (seat ∷ later) marks other is = in_stays later (marked_by seat.slips marks) other (by_stays seat.slips marks other is)

in_here : (seats : List Seated) (marks : List Bool) (other : ℕ) (seat : Seated) (slip : Slipped) → other < length marks → In seat seats →
    In slip seat.slips → slip.number ≡ other + 1 → slice_get (marked_in seats marks) other ≡ Some true
in_here [] marks other seat slip below none one is = absurd none
in_here (first ∷ later) marks other seat slip below (inl same) one is =
    in_stays later (marked_by first.slips marks) other
    (by_here first.slips marks other slip below (subst (λ (s : Seated). In slip s.slips) same one) is)
in_here (first ∷ later) marks other seat slip below (inr among) one is =
    in_here later (marked_by first.slips marks) other seat slip (subst (λ (n : ℕ). other < n) (sym (by_long first.slips marks)) below) among one is

in_other : (seats : List Seated) (marks : List Bool) (other : ℕ) → slice_get (marked_in seats marks) other ≡ Some true →
    (slice_get marks other ≡ Some true) ⊎ HasSlip (other + 1) seats
in_other [] marks other is = inl is
in_other (seat ∷ later) marks other is = elim (in_other later (marked_by seat.slips marks) other is) [
  | inl was ↦ elim (by_other seat.slips marks other was) [
    | inl before ↦ inl before
    | inr it ↦ inr (record { seat = seat; slip = it.slip; among = inl refl; one = it.one; is = it.is })
  ]
  | inr it ↦ inr (record { seat = it.seat; slip = it.slip; among = inr it.among; one = it.one; is = it.is })
]

-- ---- all of them

none_set : (count other : ℕ) → slice_get (replicate count false) other ≡ Some true → ⊥
none_set zero other is = absurd cc
none_set (suc count) zero is = absurd cc
none_set (suc count) (suc other) is = none_set count other is

so_many : (count : ℕ) → length (replicate count false) ≡ count
so_many zero = refl
so_many (suc count) = ap suc (so_many count)

all_at : (marks : List Bool) → list_all (λ mark. mark) marks ≡ true → (other : ℕ) → other < length marks → slice_get marks other ≡ Some true
all_at [] all other below = absurd (omega (arith, below))
all_at (true ∷ marks) all zero below = refl
all_at (false ∷ marks) all zero below = absurd cc
all_at (true ∷ marks) all (suc other) below = all_at marks all other (omega (arith, below))
all_at (false ∷ marks) all (suc other) below = absurd cc

at_all : (marks : List Bool) → ((other : ℕ) → other < length marks → slice_get marks other ≡ Some true) → list_all (λ mark. mark) marks ≡ true
at_all [] each = refl
at_all (true ∷ marks) each = at_all marks (λ other below. each (suc other) (omega (arith, below)))
at_all (false ∷ marks) each = absurd (let is = each 0 (omega arith) in cc)

pub all_set : (count : ℕ) (seats : List Seated) → list_all (λ mark. mark) (marked_in seats (replicate count false)) ≡ true → (number : ℕ) → 1 ≤ number →
    number ≤ count → HasSlip number seats
all_set count seats all zero least most = absurd (omega (arith, least))
all_set count seats all (suc other) least most =
    let long : length (marked_in seats (replicate count false)) ≡ count = in_long seats (replicate count false) ∙ so_many count in
    elim (in_other seats (replicate count false) other (all_at (marked_in seats (replicate count false)) all other (omega (arith, most, long)))) [
      | inl was ↦ absurd (none_set count other was)
      | inr it ↦ subst (λ (n : ℕ). HasSlip n seats) (omega arith) it
    ]

pub set_all : (count : ℕ) (seats : List Seated) → ((number : ℕ) → 1 ≤ number → number ≤ count → HasSlip number seats) →
    list_all (λ mark. mark) (marked_in seats (replicate count false)) ≡ true
set_all count seats each =
    let many = so_many count in
    let long : length (marked_in seats (replicate count false)) ≡ count = in_long seats (replicate count false) ∙ many in
    at_all (marked_in seats (replicate count false)) (λ other below.
    let it = each (other + 1) (omega arith) (omega (arith, below, long)) in
    in_here seats (replicate count false) other it.seat it.slip (omega (arith, below, long, many)) it.among it.one it.is)

-- So it is asked by counting the slips, and looking at the marks.
pub each_once : (count : ℕ) (seats : List Seated) (many : Bool) → (IsTrue many ↔ (slips_in seats ≡ count)) →
    (IsTrue (many && list_all (λ mark. mark) (marked_in seats (replicate count false))) ↔ EachOnce count seats)
each_once count seats many asked = (
  (λ both. record { many = asked.0 (first_of many _ both); each = all_set count seats (second_of many _ both) }),
  (λ each. and_from many _ (asked.1 each.many) (set_all count seats each.each)),
)
  where
    first_of : (a b : Bool) → (a && b) ≡ true → a ≡ true
    first_of true b both = refl
    first_of false b both = both

    second_of : (a b : Bool) → (a && b) ≡ true → b ≡ true
    second_of true b both = both
    second_of false b both = absurd cc
