-- Rows as they are shown, and what they are read as.
use Rattle.std.proofs.Common.{◌≡◌, ◌⊎◌, inl, inr, ℕ, zero, suc, ◌+◌, ◌-◌, ◌<◌, ◌≤◌, ◌<ℤ◌, ℤ, pos, negsuc, Bool, true, false, ◌&&◌, ◌||◌, List, [], ◌∷◌}
use Rattle.std.proofs.Common.{◌++◌, map, take, length, get_or, IsTrue, ◌↔◌, refl, sym, ap, subst, ◌∙◌, arith, add-one, int_lt}
use Rattle.std.specs.List.{AllZip, AllByRecursion, IsAllAdjacentAnswer, AllAdjacentBelow}
use Rattle.std.specs.Ordering.{int_eq}
use Rattle.std.proofs.lemmas.Bool.Decides.{Decides-int_eq, nat_tests}
use Rattle.std.proofs.lemmas.Int.{ints}
use Rattle.std.proofs.lemmas.List.{take_more, map-append}
use Rattle.sqlite.specs.declared.types.Value.TheVariants.{Int, Blob}
use Rattle.sqlite.specs.Order.{Row, column}
use Rattle.record_rows.specs.declared.row.SlotRow.{SlotRow}
use Rattle.record_rows.specs.Content.{Slot, Entry, entry_of, slot_of, values_of, IsShownAs, AreShownAs, is_below, AreAscending}

pub all_zip-push : {A B : Type 0} (R : A → B → Type 0) (xs : List A) (ys : List B) (x : A) (y : B) → AllZip R xs ys → R x y
    → AllZip R (xs ++ x ∷ []) (ys ++ y ∷ [])
all_zip-push R [] [] x y all one = (one, tt)
all_zip-push R [] (b ∷ ys) x y all one = absurd all
all_zip-push R (a ∷ xs) [] x y all one = absurd all
all_zip-push R (a ∷ xs) (b ∷ ys) x y all one = (all.0, all_zip-push R xs ys x y all.1 one)

pub shown_more : (shown : List Row) (at : ℕ) (row : Row) (rows : List SlotRow) (next : SlotRow) → at < length shown → row ≡ get_or shown at row
    → AreShownAs (take at shown) (map entry_of rows) → IsShownAs row (entry_of next)
    → AreShownAs (take (at + 1) shown) (map entry_of (rows ++ next ∷ []))
shown_more shown at row rows next low is so one =
    rw (take_more shown at row low, ← is, map-append entry_of rows (next ∷ [])) (all_zip-push IsShownAs (take at shown) (map entry_of rows) row
    (entry_of next) so one)

-- each row that is shown has an entry
pub shown_at : (shown : List Row) (entries : List Entry) (at : ℕ) (row : Row) → AreShownAs shown entries → at < length shown
    → row ≡ get_or shown at row → (entry : Entry) × IsShownAs row entry
shown_at [] entries at row all low is = absurd (omega arith)
shown_at (x ∷ shown) [] at row all low is = absurd all
shown_at (x ∷ shown) (e ∷ entries) zero row all low is = (e, subst (λ r. IsShownAs r e) (sym is) all.0)
shown_at (x ∷ shown) (e ∷ entries) (suc at) row all low is = shown_at shown entries at row all.1 (omega arith) is

-- ---- the order

lt_fact : (a b : ℤ) → int_lt a b ≡ true → a <ℤ b
lt_fact (pos m) (pos n) h = grind (arith, nat_tests)
lt_fact (pos m) (negsuc n) h = absurd (cc)
lt_fact (negsuc m) (pos n) h = grind (arith, nat_tests)
lt_fact (negsuc m) (negsuc n) h = grind (arith, nat_tests)

fact_lt : (a b : ℤ) → a <ℤ b → int_lt a b ≡ true
fact_lt (pos m) (pos n) h = grind (arith, nat_tests)
fact_lt (pos m) (negsuc n) h = grind (arith, nat_tests)
fact_lt (negsuc m) (pos n) h = refl
fact_lt (negsuc m) (negsuc n) h = grind (arith, nat_tests)

either_true : (x y : Bool) → (x || y) ≡ true → (x ≡ true) ⊎ (y ≡ true)
either_true true y h = inl refl
either_true false y h = inr h

both_true : (x y : Bool) → (x && y) ≡ true → (x ≡ true) × (y ≡ true)
both_true true true h = (refl, refl)
both_true true false h = absurd (cc)
both_true false y h = absurd (cc)

below_fact : (a b : Slot) → is_below a b ≡ true → (a.id <ℤ b.id) ⊎ ((a.id ≡ b.id) × (a.place <ℤ b.place))
below_fact a b h = elim (either_true (int_lt a.id b.id) _ h) [
  | inl lower ↦ inl (lt_fact a.id b.id lower)
  | inr same ↦ let both = both_true (int_eq a.id b.id) (int_lt a.place b.place) same in inr
      ((Decides-int_eq a.id b.id).0 both.0, lt_fact a.place b.place both.1)
]

fact_below : (a b : Slot) → (a.id <ℤ b.id) ⊎ ((a.id ≡ b.id) × (a.place <ℤ b.place)) → is_below a b ≡ true
fact_below a b (inl lower) = rw (fact_lt a.id b.id lower)
fact_below a b (inr same) = rw ((Decides-int_eq a.id b.id).1 same.0, fact_lt a.place b.place same.1) (or_true (int_lt a.id b.id))
  where
    or_true : (x : Bool) → (x || true) ≡ true
    or_true true = refl
    or_true false = refl

below_all : (a b c : Slot) → is_below a b ≡ true → is_below b c ≡ true → is_below a c ≡ true
below_all a b c p q = fact_below a c (joined (below_fact a b p) (below_fact b c q))
  where
    joined : (a.id <ℤ b.id) ⊎ ((a.id ≡ b.id) × (a.place <ℤ b.place)) → (b.id <ℤ c.id) ⊎ ((b.id ≡ c.id) × (b.place <ℤ c.place))
        → (a.id <ℤ c.id) ⊎ ((a.id ≡ c.id) × (a.place <ℤ c.place))
    joined (inl x) (inl y) = inl (omega (arith, ints))
    joined (inl x) (inr y) = inl (subst (λ z. a.id <ℤ z) y.0 x)
    joined (inr x) (inl y) = inl (subst (λ z. z <ℤ c.id) (sym x.0) y)
    joined (inr x) (inr y) = inr (x.0 ∙ y.0, omega (arith, ints))

pub lower_still : (a b : Slot) (more : List Entry) → is_below a b ≡ true → AllByRecursion (λ e. is_below b e.0 ≡ true) more
    → AllByRecursion (λ e. is_below a e.0 ≡ true) more
lower_still a b [] first all = tt
lower_still a b (e ∷ more) first all = (below_all a b e.0 first all.0, lower_still a b more first all.1)

ascending_of : (rows : List SlotRow) → AllAdjacentBelow (λ x y. true ≡ is_below (slot_of x) (slot_of y)) rows (length rows) → AreAscending (map entry_of rows)
ascending_of [] h = tt
ascending_of (x ∷ []) h = (tt, tt)
ascending_of (x ∷ y ∷ more) h =
    let rest = ascending_of (y ∷ more) (λ k d low. let up : suc k + 1 < length (x ∷ y ∷ more) = omega arith in rw add-one (rw add-one at (h (suc k) d up))) in
    let first : is_below (slot_of x) (slot_of y) ≡ true = sym (h 0 x (omega arith)) in
    ((first, lower_still (slot_of x) (slot_of y) (map entry_of more) first rest.0), rest)

adjacent_below : (rows : List SlotRow) (k : ℕ) (d : SlotRow) → AreAscending (map entry_of rows) → k + 1 < length rows
    → is_below (slot_of (get_or rows k d)) (slot_of (get_or rows (k + 1) d)) ≡ true
adjacent_below [] k d h low = absurd (omega arith)
adjacent_below (x ∷ []) k d h low = absurd (omega arith)
adjacent_below (x ∷ y ∷ more) zero d h low = h.0.0
adjacent_below (x ∷ y ∷ more) (suc k) d h low = rw add-one (rw add-one at (adjacent_below (y ∷ more) k d h.1 (omega arith)))

pub ascending_answer : (rows : List SlotRow) (r : Bool) → IsAllAdjacentAnswer (λ x y b. b ≡ is_below (slot_of x) (slot_of y)) rows r
    → IsTrue r ↔ AreAscending (map entry_of rows)
ascending_answer rows true h = (λ _. ascending_of rows h, λ _. refl)
ascending_answer [] false h = absurd (omega (arith, h.1))
ascending_answer (x ∷ rows) false h = (
  λ no. absurd (let e : false ≡ true = no in cc),
  λ all. absurd (let up = adjacent_below
      (x ∷ rows) h.0 x all h.1 in let e : false ≡ true = h.2 x ∙ up in cc),
)

default_free : (rows : List SlotRow) (k : ℕ) (d e : SlotRow) → k < length rows → get_or rows k d ≡ get_or rows k e
default_free [] k d e low = absurd (omega arith)
default_free (x ∷ rows) zero d e low = refl
default_free (x ∷ rows) (suc k) d e low = default_free rows k d e (omega arith)

-- two neighbours, as they were read
pub neighbours : (rows : List SlotRow) (at : ℕ) (x y : SlotRow) (b : Bool) → 1 ≤ at → at < length rows → x ≡ get_or rows (at - 1) x
    → y ≡ get_or rows at y → b ≡ is_below (slot_of x) (slot_of y)
    → (d : SlotRow) → b ≡ is_below (slot_of (get_or rows (at - 1) d)) (slot_of (get_or rows at d))
neighbours rows at x y b up low first second is d =
    let one : x ≡ get_or rows (at - 1) d = first ∙ default_free rows (at - 1) x d (omega arith) in
    let two : y ≡ get_or rows at d = second ∙ default_free rows at y d low in
    is ∙ ap (λ r. is_below (slot_of r) (slot_of y)) one ∙ ap (λ r. is_below (slot_of (get_or rows (at - 1) d)) (slot_of r)) two

pub not_ascending : (rows : List SlotRow) (at : ℕ) → 1 ≤ at → at < length rows → ((d : SlotRow)
    → false ≡ is_below (slot_of (get_or rows (at - 1) d)) (slot_of (get_or rows at d)))
    → IsTrue false ↔ AreAscending (map entry_of rows)
not_ascending rows at up low apart =
    let next : at ≡ at - 1 + 1 = omega arith in
    ascending_answer rows false (
      at - 1,
      omega arith,
      λ d. subst (λ k. false ≡ is_below (slot_of (get_or rows (at - 1) d)) (slot_of
          (get_or rows k d))) next (apart d),
    )

pub below_itself : (slot : Slot) → is_below slot slot ≡ true → ⊥
below_itself slot h = by_order (below_fact slot slot h)
  where
    by_order : (slot.id <ℤ slot.id) ⊎ ((slot.id ≡ slot.id) × (slot.place <ℤ slot.place)) → ⊥
    by_order (inl lower) = omega (arith, ints)
    by_order (inr lower) = let last = lower.1 in omega (arith, ints, last)

-- ---- what is shown is shown as one list of entries

same_int : (m n : ℤ) → Int m ≡ Int n → m ≡ n
same_int m n is = cc

same_blob : (a b : List ℕ) → Blob a ≡ Blob b → a ≡ b
same_blob a b is = cc

entry_once : (row : Row) (e f : Entry) → IsShownAs row e → IsShownAs row f → e ≡ f
entry_once row e f p q =
    let is : values_of e.0 e.1 ≡ values_of f.0 f.1 = sym p.is ∙ q.is in
    let id : e.0.id ≡ f.0.id = same_int _ _ (ap (λ (r : Row). column r 0) is) in
    let place : e.0.place ≡ f.0.place = same_int _ _ (ap (λ (r : Row). column r 1) is) in
    let promised : e.1.promised ≡ f.1.promised = same_int _ _ (ap (λ (r : Row). column r 2) is) in
    let voted : e.1.voted ≡ f.1.voted = same_int _ _ (ap (λ (r : Row). column r 3) is) in
    let chain : e.1.chain ≡ f.1.chain = same_blob _ _ (ap (λ (r : Row). column r 4) is) in
    λ i. (record { id = id i; place = place i }, record { promised = promised i; voted = voted i; chain = chain i })

pub shown_once : (shown : List Row) (es fs : List Entry) → AreShownAs shown es → AreShownAs shown fs → es ≡ fs
shown_once [] [] [] p q = refl
shown_once [] [] (f ∷ fs) p q = absurd q
shown_once [] (e ∷ es) fs p q = absurd p
shown_once (r ∷ shown) [] fs p q = absurd p
shown_once (r ∷ shown) (e ∷ es) [] p q = absurd q
shown_once (r ∷ shown) (e ∷ es) (f ∷ fs) p q = ap (λ x. x ∷ es) (entry_once r e f p.0 q.0) ∙ ap (λ xs. f ∷ xs) (shown_once shown es fs p.1 q.1)
