-- That slots which are stored are never told as damaged.
use Rattle.std.proofs.Common.{◌≡◌, Result, ℕ, suc, ◌+◌, ◌<◌, ◌≤◌, Bool, true, false, cond, List, [], ◌∷◌, map, length, Err, refl, ap, subst, ◌∙◌, arith}
use Rattle.std.proofs.Common.{Less, Equal, Greater, int_cmp, int_lt, add-one}
use Rattle.std.specs.Prelude.{filter, Vec}
use Rattle.std.specs.declared.alloc.Global.{Global}
use Rattle.std.specs.Ordering.{is_lt, int_eq, ordering_then}
use Rattle.std.specs.List.{AllByRecursion}
use Rattle.std.specs.List.Sorted.{IsPermutation, IsSorted}
use Rattle.std.proofs.lemmas.List.Sorted.{length_permutation}
use Rattle.sqlite_trees.proofs.ListLemmas.{filter-map, IsPermutation-filter}
use Rattle.sqlite_value.proofs.OrderLemmas.{value_cmp-Int}
use Rattle.sqlite.specs.declared.types.Value.TheVariants.{Int}
use Rattle.sqlite.specs.Order.{Row, column}
use Rattle.sqlite.specs.Query.{Query, Output, output, output_cmp}
use Rattle.sqlite.specs.State.{State, Shown}
use Rattle.record_rows.specs.declared.row.SlotRow.{SlotRow}
use Rattle.record_rows.specs.declared.fault.ReadFault.{ReadFault}
use Rattle.record_rows.specs.declared.fault.ReadFault.TheVariants.{Damaged}
use Rattle.record_rows.specs.Tables.{slots_tree}
use Rattle.record_rows.specs.Content.{Slot, Slots, Entry, same_slot, is_at, IsSlotRow, AreSlots, IsShownAs, AreShownAs, is_below, AreAscending}
use Rattle.record_rows.specs.Ours.{HoldsNoSlots}
use Rattle.record_rows.proofs.Texts.{read_slots_text, slots_shown, by_slot}
use Rattle.record_rows.proofs.QueryLemmas.{on_table, all-permuted}
use Rattle.record_rows.proofs.SlotLemmas.{slots_are_one, same_itself, at_columns, few_at, length_map}
use Rattle.record_rows.proofs.ShownLemmas.{lower_still}
use Rattle.record_rows.proofs.SlotReads.{slot_row, slot_rows, slots_shown_by}

order_by : (a b : Slot) (p q r s : Bool) → int_lt b.id a.id ≡ p → int_lt a.id b.id ≡ q → int_lt b.place a.place ≡ r → int_lt a.place b.place ≡ s
    → is_lt (ordering_then (cond p Less (cond q Greater Equal)) (ordering_then (cond r Less (cond s Greater Equal)) Equal)) ≡ false → (a ≡ b → ⊥)
    → is_below a b ≡ true
order_by a b true q r s ep eq er es low apart = absurd (cc)
order_by a b false true r s ep eq er es low apart = rw eq
order_by a b false false true s ep eq er es low apart = absurd (cc)
order_by a b false false false true ep eq er es low apart = rw (eq, ep, es)
order_by a b false false false false ep eq er es low apart =
    let id : int_eq a.id b.id ≡ true = rw (eq, ep) in
    let place : int_eq a.place b.place ≡ true = rw (es, er) in
    absurd (apart (slots_are_one a b (rw (id, place))))

keys_order : (a b : Slot) → is_lt (ordering_then (int_cmp b.id a.id) (ordering_then (int_cmp b.place a.place) Equal)) ≡ false → (a ≡ b → ⊥)
    → is_below a b ≡ true
keys_order a b = order_by a b (int_lt b.id a.id) (int_lt a.id b.id) (int_lt b.place a.place) (int_lt a.place b.place) refl refl refl refl

abbrev query : ℕ → Query
query tree = on_table tree [] slots_shown by_slot

-- an output is sorted by the key that it shows
record IsKeyed (o : Output) : Type 0 where
  is : o.0 ≡ column o.1 1 ∷ column o.1 2 ∷ []

abbrev rows_of : List Output → List Row
rows_of = map (λ (o : Output). o.1)

two_at : (slot : Slot) (r s : Row) (rows : List Row) → is_at slot r ≡ true → is_at slot s ≡ true → length (filter (is_at slot) (r ∷ s ∷ rows)) ≤ 1 → ⊥
two_at slot r s rows p q few =
    let one = ap (λ b. length (cond b (r ∷ filter (is_at slot) (s ∷ rows)) (filter (is_at slot) (s ∷ rows)))) p in
    let two = ap (λ b. length (cond b (s ∷ filter (is_at slot) rows) (filter (is_at slot) rows))) q in
    omega (arith, one, two)

few_later : (slot : Slot) (r : Row) (rows : List Row) → length (filter (is_at slot) (r ∷ rows)) ≤ 1 → length (filter (is_at slot) rows) ≤ 1
few_later slot r rows few = by_test (is_at slot r) few
  where
    by_test : (b : Bool) → length (cond b (r ∷ filter (is_at slot) rows) (filter (is_at slot) rows)) ≤ 1 → length (filter (is_at slot) rows) ≤ 1
    by_test true low = omega arith
    by_test false low = low

first_below : (tree : ℕ) (o p : Output) (rows : List Row) (e f : Entry) → IsKeyed o → IsKeyed p → IsShownAs o.1 e → IsShownAs p.1 f
    → is_lt (output_cmp (query tree) p o) ≡ false
    → ((slot : Slot) → length (filter (is_at slot) (o.1 ∷ p.1 ∷ rows)) ≤ 1) → is_below e.0 f.0 ≡ true
first_below tree o p rows e f ko kp so sp low few =
    let oi : o.0 ≡ Int e.0.id ∷ Int e.0.place ∷ [] = ko.is ∙ ap (λ (r : Row). column r 0 ∷ column r 1 ∷ []) so.is in
    let pi : p.0 ≡ Int f.0.id ∷ Int f.0.place ∷ [] = kp.is ∙ ap (λ (r : Row). column r 0 ∷ column r 1 ∷ []) sp.is in
    let plain : is_lt (ordering_then (int_cmp f.0.id e.0.id) (ordering_then (int_cmp f.0.place e.0.place) Equal)) ≡ false =
    rw (pi, oi, value_cmp-Int f.0.id e.0.id, value_cmp-Int f.0.place e.0.place) at low in
    keys_order e.0 f.0 plain (λ same.
    two_at e.0 o.1 p.1 rows (at_columns o.1 e.0 e.0 e.1 so.is ∙ same_itself e.0) (at_columns p.1 f.0 e.0 f.1 sp.is
    ∙ subst (λ s. same_slot s e.0 ≡ true) same (same_itself e.0)) (few e.0))

ascends : (tree : ℕ) (os : List Output) (es : List Entry) → AllByRecursion IsKeyed os → AreShownAs (rows_of os) es → IsSorted (output_cmp (query tree)) os
    → ((slot : Slot) → length (filter (is_at slot) (rows_of os)) ≤ 1) → AreAscending es
ascends tree [] [] keyed shown sorted few = tt
ascends tree [] (e ∷ es) keyed shown sorted few = absurd shown
ascends tree (o ∷ os) [] keyed shown sorted few = absurd shown
ascends tree (o ∷ []) (e ∷ []) keyed shown sorted few = (tt, tt)
ascends tree (o ∷ []) (e ∷ f ∷ es) keyed shown sorted few = absurd shown.1
ascends tree (o ∷ p ∷ os) (e ∷ []) keyed shown sorted few = absurd shown.1
ascends tree (o ∷ p ∷ os) (e ∷ f ∷ es) keyed shown sorted few =
    let rest = ascends tree (p ∷ os) (f ∷ es) keyed.1 shown.1 (λ k d low up. let more : suc k + 1 < length (o ∷ p ∷ os) = omega arith in rw add-one
    (rw add-one at (sorted (suc k) d (omega arith) more)))
    (λ slot. few_later slot o.1 (rows_of (p ∷ os)) (few slot)) in
    let first = first_below tree o p (rows_of os) e f keyed.0 keyed.1.0 shown.0 shown.1.0 (sorted 0 o (omega arith) (omega arith)) few in
    ((first, lower_still e.0 f.0 es first rest.0), rest)

entries_in : (rows : List Row) → AllByRecursion IsSlotRow rows → (es : List Entry) × AreShownAs rows es
entries_in [] typed = ([], tt)
entries_in (r ∷ rows) typed =
    let rest = entries_in rows typed.1 in
    ((typed.0.slot, typed.0.body) ∷ rest.0, (record { numbered = typed.0.numbered; is = typed.0.is }, rest.1))

typed_over : (found : List Row) → AllByRecursion IsSlotRow found → AllByRecursion IsSlotRow (map slot_row found)
typed_over [] all = tt
typed_over (r ∷ found) all = (record { numbered = all.0.numbered; slot = all.0.slot; body = all.0.body; is = all.0.is }, typed_over found all.1)

keyed_over : (tree : ℕ) (found : List Row) → AllByRecursion IsKeyed (map (λ r. output (query tree) ([] ∷ r ∷ [])) found)
keyed_over tree [] = tt
keyed_over tree (r ∷ found) = (record { is = refl }, keyed_over tree found)

few_shown : (found rows : List Row) (slots : Slots) (slot : Slot) → AreSlots found slots → IsPermutation (map slot_row found) rows
    → length (filter (is_at slot) rows) ≤ 1
few_shown found rows slots slot are same =
    let moved : IsPermutation (map slot_row (filter (is_at slot) found)) (filter (is_at slot) rows) =
    subst (λ xs. IsPermutation xs (filter (is_at slot) rows)) (filter-map (is_at slot) slot_row found) (IsPermutation-filter (is_at slot)
    (map slot_row found) rows same) in
    omega (arith, length_permutation _ _ moved, length_map slot_row (filter (is_at slot) found), few_at slot found slots are)

-- slots that are stored are read
pub holds_no_slots : (old new : State) (rows : List Row) → Shown read_slots_text [] old new rows → ((entries : List Entry)
    → AreShownAs rows entries → AreAscending entries → ⊥) → HoldsNoSlots old
holds_no_slots old new rows h none layout ours slots are =
    let tree = slots_tree layout in
    let found = old.now.trees tree in
    let it = slots_shown_by layout old new rows ours h in
    let same = slot_rows tree found rows it in
    let entries = entries_in rows (all-permuted IsSlotRow (map slot_row found) rows same (typed_over found are.typed)) in
    let keyed = all-permuted IsKeyed (map (λ r. output (query tree) ([] ∷ r ∷ [])) found) it.ordered it.same (keyed_over tree found) in
    let few = λ (slot : Slot). subst (λ xs. length (filter (is_at slot) xs) ≤ 1) it.are (few_shown found rows slots slot are same) in
    none entries.0 entries.1 (ascends tree it.ordered entries.0 keyed (subst (λ xs. AreShownAs xs entries.0) it.are entries.1) it.sorted few)

pub told_no_slots : (old new : State) (rows : List Row) (r : Result (Vec SlotRow Global) ReadFault) → Shown read_slots_text [] old new rows
    → (r ≡ Err Damaged → (entries : List Entry) → AreShownAs rows entries → AreAscending entries → ⊥) → r ≡ Err Damaged → HoldsNoSlots old
told_no_slots old new rows r h is told = holds_no_slots old new rows h (is told)
