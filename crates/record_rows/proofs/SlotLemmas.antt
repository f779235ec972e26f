-- What the rows of `slots` hold once a row was put among them.
use Rattle.std.proofs.Common.{◌≡◌, ◌≤◌, suc, ℤ, Bool, true, false, not, cond, ◌&&◌, ◌||◌, List, [], ◌∷◌, ◌++◌, map, length, Some, None, Option}
use Rattle.std.proofs.Common.{refl, sym, ap, subst, ◌∙◌, arith, Ordering, Less, Equal, Greater}
use Rattle.std.specs.Prelude.{filter}
use Rattle.std.specs.Ordering.{is_eq, int_eq, match_ordering}
use Rattle.std.specs.List.{AllByRecursion}
use Rattle.std.specs.List.Sorted.{IsPermutation}
use Rattle.std.proofs.lemmas.Bool.Decides.{Decides-int_eq}
use Rattle.std.proofs.lemmas.List.Sorted.{IsPermutation-refl, IsPermutation-cons, IsPermutation-trans, IsPermutation-middle}
use Rattle.std.proofs.lemmas.List.Sorted.{IsPermutation-filter_both, length_permutation}
use Rattle.sqlite_trees.proofs.ListLemmas.{IsPermutation-filter}
use Rattle.sqlite_trees.proofs.TreeLemmas.{all-put_row}
use Rattle.sqlite_value.proofs.OrderLemmas.{value_cmp-Int}
use Rattle.sqlite.proofs.Callers.{one_permutation}
use Rattle.sqlite.specs.declared.types.Value.TheVariants.{Int}
use Rattle.sqlite.specs.Order.{Row, column, value_cmp}
use Rattle.sqlite.specs.Tree.{rowid, put_row, has_rowid, without_rowid}
use Rattle.sqlite.specs.View.{is_int}
use Rattle.sqlite.specs.Edit.{is_taken}
use Rattle.record_rows.specs.declared.row.SlotRow.{SlotRow}
use Rattle.record_rows.specs.Content.{Slot, Body, Slots, same_slot, with_row, slot_of, body_of, is_at, columns_in, values_of, values_at, IsSlotRow, AreSlots}

-- ---- lists

put_by_order : (new r : Row) (rs : List Row) (o : Ordering) → (is_eq o || is_taken rs new) ≡ false → (is_taken rs new ≡ false
    → IsPermutation (new ∷ rs) (put_row new rs))
    → IsPermutation (new ∷ r ∷ rs) (match_ordering o (r ∷ put_row new rs) (new ∷ rs) (new ∷ r ∷ rs))
put_by_order new r rs Less none rest = IsPermutation-trans (new ∷ r ∷ rs) (r ∷ new ∷ rs) (r ∷ put_row new rs) (IsPermutation-middle (new ∷ []) r rs)
    (IsPermutation-cons r (new ∷ rs) (put_row new rs) (rest none))
put_by_order new r rs Equal none rest = absurd (cc)
put_by_order new r rs Greater none rest = IsPermutation-refl (new ∷ r ∷ rs)

pub put_row-permutation : (new : Row) (rows : List Row) → is_taken rows new ≡ false → IsPermutation (new ∷ rows) (put_row new rows)
put_row-permutation new [] free = IsPermutation-refl (new ∷ [])
put_row-permutation new (r ∷ rs) free = put_by_order new r rs (value_cmp (rowid r) (rowid new)) free (put_row-permutation new rs)

pub few-permutation : {X : Type 0} (xs ys : List X) → IsPermutation xs ys → length xs ≤ 1 → xs ≡ ys
few-permutation [] [] same few = refl
few-permutation [] (y ∷ ys) same few = absurd (omega (arith, length_permutation [] (y ∷ ys) same))
few-permutation (x ∷ []) ys same few = sym (one_permutation x ys same)
few-permutation (x ∷ z ∷ xs) ys same few = absurd (omega arith)

filter_step : {X : Type 0} (P : X → Type 0) (p : Bool) (x : X) (xs : List X) → P x → AllByRecursion P xs → AllByRecursion P (cond p (x ∷ xs) xs)
filter_step P true x xs one all = (one, all)
filter_step P false x xs one all = all

pub all-filter : {X : Type 0} (P : X → Type 0) (p : X → Bool) (xs : List X) → AllByRecursion P xs → AllByRecursion P (filter p xs)
all-filter P p [] all = tt
all-filter P p (x ∷ xs) all = filter_step P (p x) x (filter p xs) all.0 (all-filter P p xs all.1)

no_more : {X : Type 0} (x : X) (xs : List X) → length (x ∷ xs) ≤ 1 → xs ≡ []
no_more x [] few = refl
no_more x (y ∷ ys) few = absurd (omega arith)

pub length_map : {A B : Type 0} (f : A → B) (xs : List A) → length (map f xs) ≡ length xs
length_map f [] = refl
length_map f (x ∷ xs) = ap suc (length_map f xs)

-- ---- keys

both_true : (x y : Bool) → (x && y) ≡ true → (x ≡ true) × (y ≡ true)
both_true true true h = (refl, refl)
both_true true false h = absurd (cc)
both_true false y h = absurd (cc)

slot_by : (a b : Slot) → a.id ≡ b.id → a.place ≡ b.place → a ≡ b
slot_by a b p q = λ i. record { id = p i; place = q i }

pub slots_are_one : (a b : Slot) → same_slot a b ≡ true → a ≡ b
slots_are_one a b same =
    let both = both_true (int_eq a.id b.id) (int_eq a.place b.place) same in
    slot_by a b ((Decides-int_eq a.id b.id).0 both.0) ((Decides-int_eq a.place b.place).0 both.1)

pub same_itself : (slot : Slot) → same_slot slot slot ≡ true
same_itself slot = rw ((Decides-int_eq slot.id slot.id).1 refl, (Decides-int_eq slot.place slot.place).1 refl)

-- a row with these columns stands at their key alone
pub at_columns : (row : Row) (slot other : Slot) (body : Body) → columns_in row ≡ values_of slot body → is_at other row ≡ same_slot slot other
at_columns row slot other body is =
    let id : column row 1 ≡ Int slot.id = ap (λ (r : Row). column r 0) is in
    let place : column row 2 ≡ Int slot.place = ap (λ (r : Row). column r 1) is in
    rw (id, place, value_cmp-Int slot.id other.id, value_cmp-Int slot.place other.place)

pub few_at : (slot : Slot) (rows : List Row) (slots : Slots) → AreSlots rows slots → length (filter (is_at slot) rows) ≤ 1
few_at slot rows slots are = by_body (slots slot) (are.exact slot)
  where
    by_body : (o : Option Body) → map columns_in (filter (is_at slot) rows) ≡ values_at slot o → length (filter (is_at slot) rows) ≤ 1
    by_body None is = omega (arith, length_map columns_in (filter (is_at slot) rows), ap length is)
    by_body (Some body) is = omega (arith, length_map columns_in (filter (is_at slot) rows), ap length is)

-- ---- a row that is put in

filter_first : {X : Type 0} (p : X → Bool) (x : X) (xs : List X) (b : Bool) → p x ≡ b → filter p (x ∷ xs) ≡ cond b (x ∷ filter p xs) (filter p xs)
filter_first p x xs b is = ap (λ c. cond c (x ∷ filter p xs) (filter p xs)) is

-- the other rows are those that stand at other keys, and the new row stands at its own
put_exact : (rest : List Row) (new : Row) (slot : Slot) (body : Body) (slots : Slots) → is_taken rest new ≡ false → columns_in new ≡ values_of slot body
    → (filter (is_at slot) rest ≡ []) → ((other : Slot) → same_slot slot other ≡ false
    → map columns_in (filter (is_at other) rest) ≡ values_at other (slots other))
    → ((other : Slot) → same_slot slot other ≡ false → length (filter (is_at other) rest) ≤ 1)
    → (other : Slot) (b : Bool) → same_slot slot other ≡ b → map columns_in (filter (is_at other) (put_row new rest)) ≡ values_at other (cond b
    (Some body) (slots other))
put_exact rest new slot body slots free is none others few other true same =
    let one : slot ≡ other = slots_are_one slot other same in
    let empty : filter (is_at other) rest ≡ [] = subst (λ s. filter (is_at s) rest ≡ []) one none in
    let front : filter (is_at other) (new ∷ rest) ≡ new ∷ [] = filter_first (is_at other) new rest true (at_columns new slot other body is ∙ same)
    ∙ ap (λ xs. new ∷ xs) empty in
    let moved = IsPermutation-filter (is_at other) (new ∷ rest) (put_row new rest) (put_row-permutation new rest free) in
    let found : filter (is_at other) (put_row new rest) ≡ new ∷ [] = one_permutation new _ (subst (λ xs. IsPermutation xs (filter (is_at other)
    (put_row new rest))) front moved) in
    ap (map columns_in) found ∙ ap (λ r. r ∷ []) (is ∙ ap (λ s. values_of s body) one)
put_exact rest new slot body slots free is none others few other false same =
    let front : filter (is_at other) (new ∷ rest) ≡ filter (is_at other) rest = filter_first (is_at other) new rest false
    (at_columns new slot other body is ∙ same) in
    let moved = IsPermutation-filter (is_at other) (new ∷ rest) (put_row new rest) (put_row-permutation new rest free) in
    let found = few-permutation _ _ (subst (λ xs. IsPermutation xs (filter (is_at other) (put_row new rest))) front moved) (few other same) in
    ap (map columns_in) (sym found) ∙ others other same

-- a row at a key that had none
pub are_slots-added : (rows : List Row) (slots : Slots) (new : Row) (row : SlotRow) → AreSlots rows slots → is_int (rowid new) ≡ true
    → columns_in new ≡ values_of (slot_of row) (body_of row)
    → is_taken rows new ≡ false → filter (is_at (slot_of row)) rows ≡ [] → AreSlots (put_row new rows) (with_row row slots)
are_slots-added rows slots new row are numbered is free none = record {
  typed = all-put_row IsSlotRow new rows (record { numbered = numbered; slot = slot_of row; body = body_of row; is = is }) are.typed;
  exact = λ other. put_exact rows new (slot_of row) (body_of row) slots free is none (λ s _. are.exact s) (λ s _. few_at s rows slots are) other
      (same_slot (slot_of row) other) refl;
}

-- a row in place of the one that stands at its key, which alone has the rowid
pub are_slots-replaced : (rows : List Row) (slots : Slots) (id : ℤ) (there new : Row) (row : SlotRow) (was : Body) → AreSlots rows slots
    → filter (has_rowid id) rows ≡ there ∷ []
    → columns_in there ≡ values_of (slot_of row) was → is_int (rowid new) ≡ true → columns_in new ≡ values_of (slot_of row) (body_of row)
    → is_taken (without_rowid id rows) new ≡ false → AreSlots (put_row new (without_rowid id rows)) (with_row row slots)
are_slots-replaced rows slots id there new row was are alone stands numbered is free =
    let rest = without_rowid id rows in
    let parted : IsPermutation rows (there ∷ rest) = subst (λ xs. IsPermutation rows (xs ++ rest)) alone (IsPermutation-filter_both (has_rowid id)
    (λ r. not (has_rowid id r)) (λ r. refl) rows) in
    let slot = slot_of row in
    let same = λ (other : Slot). few-permutation (filter (is_at other) rows) (filter (is_at other) (there ∷ rest)) (IsPermutation-filter
    (is_at other) rows (there ∷ rest) parted) (few_at other rows slots are) in
    let here = at_columns there slot slot was stands ∙ same_itself slot in
    let mine : filter (is_at slot) rows ≡ there ∷ filter (is_at slot) rest = same slot ∙ filter_first (is_at slot) there rest true here in
    let none : filter (is_at slot) rest ≡ [] = no_more there _ (subst (λ xs. length xs ≤ 1) mine (few_at slot rows slots are)) in
    let left = λ (other : Slot) (apart : same_slot slot other ≡ false). same other
    ∙ filter_first (is_at other) there rest false (at_columns there slot other was stands ∙ apart) in
    record {
      typed = all-put_row IsSlotRow new rest (record { numbered = numbered; slot = slot; body = body_of row; is = is }) (all-filter IsSlotRow
          (λ r. not (has_rowid id r)) rows are.typed);
      exact = λ other. put_exact rest new slot (body_of row) slots free is none (λ s apart. subst (λ xs. map columns_in xs ≡ values_at s (slots s))
          (left s apart) (are.exact s))
          (λ s apart. subst (λ xs. length xs ≤ 1) (left s apart) (few_at s rows slots are)) other (same_slot slot other) refl;
    }
