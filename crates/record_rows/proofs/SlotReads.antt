-- What is read of `slots`.
use Rattle.std.proofs.Common.{◌≡◌, Result, IfOk, ℕ, ◌≤◌, Bool, true, false, cond, List, [], ◌∷◌, map, length, Option, Some}
use Rattle.std.proofs.Common.{None, Ok, Err, refl, sym, ap, subst, ◌∙◌, arith}
use Rattle.std.specs.Prelude.{filter, Vec}
use Rattle.std.specs.declared.alloc.Global.{Global}
use Rattle.std.specs.List.{AllByRecursion}
use Rattle.std.specs.List.Sorted.{IsPermutation}
use Rattle.std.proofs.lemmas.List.Sorted.{IsPermutation-map, IsPermutation-sym}
use Rattle.sqlite_trees.proofs.ListLemmas.{map-map, filter-map, IsPermutation-filter}
use Rattle.sqlite.specs.Order.{Row, column}
use Rattle.sqlite.specs.Query.{Output, output}
use Rattle.sqlite.specs.State.{State, Shown}
use Rattle.sqlite.proofs.Callers.{reads_as}
use Rattle.record_rows.specs.declared.row.SlotRow.{SlotRow}
use Rattle.record_rows.specs.declared.fault.ReadFault.{ReadFault}
use Rattle.record_rows.specs.Tables.{Layout, slots_tree, schema_of}
use Rattle.record_rows.specs.Content.{Slot, Body, Entry, entry_of, values_of, same_slot, is_at, columns_in, values_at, IsSlotRow, AreSlots}
use Rattle.record_rows.specs.Content.{AreShownAs, is_below, AreAscending, slots_of}
use Rattle.record_rows.specs.Ours.{IsOurs, HasRead}
use Rattle.record_rows.proofs.Texts.{read_slots_text, slots_shown, by_slot, read_slots_command, read_slots_is, read_slots_plain}
use Rattle.record_rows.proofs.BesideLemmas.{told_beside}
use Rattle.record_rows.proofs.QueryLemmas.{on_table, IsShown, shows, all-permuted}
use Rattle.record_rows.proofs.SlotLemmas.{slots_are_one, at_columns, few-permutation, length_map}
use Rattle.record_rows.proofs.ShownLemmas.{below_itself}
use Rattle.record_rows.proofs.ReadLemmas.{every}

-- a row as the query shows it
abbrev pub slot_row : Row → Row
slot_row r = column r 0 ∷ column r 1 ∷ column r 2 ∷ column r 3 ∷ column r 4 ∷ column r 5 ∷ []

pub slot_rows : (tree : ℕ) (found rows : List Row) → IsShown (on_table tree [] slots_shown by_slot) [] found rows → IsPermutation (map slot_row found) rows
slot_rows tree found rows it = subst (IsPermutation (map slot_row found)) (sym it.are) (subst (λ xs. IsPermutation xs (map (λ
    (o : Output). o.1) it.ordered)) (map-map (λ (o : Output). o.1) (λ r. output (on_table tree [] slots_shown by_slot) ([] ∷ r ∷ [])) found)
    (IsPermutation-map (λ (o : Output). o.1) (map (λ r. output (on_table tree [] slots_shown by_slot) ([] ∷ r ∷ [])) found) it.ordered it.same))

pub slots_shown_by : (layout : Layout) (old new : State) (rows : List Row) → IsOurs layout old → Shown read_slots_text [] old new rows
    → IsShown (on_table (slots_tree layout) [] slots_shown by_slot) [] (old.now.trees (slots_tree layout)) rows
slots_shown_by layout old new rows ours h =
    let told = told_beside layout old.now.schema ours.schema in
    let read = reads_as read_slots_text [] old new (schema_of layout told.0) told.2 (read_slots_command layout)
    (read_slots_is layout told.0).0 (read_slots_plain layout told.0) (read_slots_is layout told.0).1 rows h in
    subst (λ xs. IsShown (on_table (slots_tree layout) [] slots_shown by_slot) [] xs rows) (every (old.now.trees (slots_tree layout)))
    (shows (slots_tree layout) [] slots_shown by_slot old.now.trees [] rows (λ _. true) (λ r. refl) read.answer)

-- ---- from what is shown to what is stored

-- a row above the key stands at another
none_above : (slot : Slot) (rows : List Row) (entries : List Entry) → AreShownAs rows entries
    → AllByRecursion (λ e. is_below slot e.0 ≡ true) entries → filter (is_at slot) rows ≡ []
none_above slot [] [] all above = refl
none_above slot [] (e ∷ entries) all above = absurd all
none_above slot (r ∷ rows) [] all above = absurd all
none_above slot (r ∷ rows) (e ∷ entries) all above =
    let apart : is_at slot r ≡ false = at_columns r e.0 slot e.1 all.0.is ∙ apart_above (same_slot e.0 slot) refl in
    ap (λ b. cond b (r ∷ filter (is_at slot) rows) (filter (is_at slot) rows)) apart ∙ none_above slot rows entries all.1 above.1
  where
    apart_above : (b : Bool) → same_slot e.0 slot ≡ b → b ≡ false
    apart_above true same = absurd (below_itself slot (subst (λ s. is_below slot s ≡ true) (slots_are_one e.0 slot same) above.0))
    apart_above false same = refl

exact_by : (rows : List Row) (entries : List Entry) (slot : Slot) → AreShownAs rows entries → AreAscending entries
    → map columns_in (filter (is_at slot) rows) ≡ values_at slot (slots_of entries slot)
exact_by [] [] slot all up = refl
exact_by [] (e ∷ entries) slot all up = absurd all
exact_by (r ∷ rows) [] slot all up = absurd all
exact_by (r ∷ rows) (e ∷ entries) slot all up = by_key (same_slot e.0 slot) refl (exact_by rows entries slot all.1 up.1)
  where
    by_key : (b : Bool) → same_slot e.0 slot ≡ b → map columns_in (filter (is_at slot) rows) ≡ values_at slot (slots_of entries slot)
        → map columns_in (filter (is_at slot) (r ∷ rows)) ≡ values_at slot (cond (same_slot e.0 slot) (Some e.1) (slots_of entries slot))
    by_key true same rest =
        let one : e.0 ≡ slot = slots_are_one e.0 slot same in
        let here : is_at slot r ≡ true = at_columns r e.0 slot e.1 all.0.is ∙ same in
        let none : filter (is_at slot) rows ≡ [] = subst (λ s. filter (is_at s) rows ≡ []) one (none_above e.0 rows entries all.1 up.0) in
        ap (λ c. map columns_in (cond c (r ∷ filter (is_at slot) rows) (filter (is_at slot) rows))) here ∙ ap (λ xs. map columns_in (r ∷ xs)) none
        ∙ ap (λ x. x ∷ []) (all.0.is ∙ ap (λ s. values_of s e.1) one)
        ∙ ap (λ c. values_at slot (cond c (Some e.1) (slots_of entries slot))) (sym same)
    by_key false same rest =
        let away : is_at slot r ≡ false = at_columns r e.0 slot e.1 all.0.is ∙ same in
        ap (λ c. map columns_in (cond c (r ∷ filter (is_at slot) rows) (filter (is_at slot) rows))) away ∙ rest
        ∙ ap (λ c. values_at slot (cond c (Some e.1) (slots_of entries slot))) (sym same)

typed_by : (rows : List Row) (entries : List Entry) → AreShownAs rows entries → AllByRecursion IsSlotRow rows
typed_by [] [] all = tt
typed_by [] (e ∷ entries) all = absurd all
typed_by (r ∷ rows) [] all = absurd all
typed_by (r ∷ rows) (e ∷ entries) all = (record { numbered = all.0.numbered; slot = e.0; body = e.1; is = all.0.is }, typed_by rows entries all.1)

typed_under : (found : List Row) → AllByRecursion IsSlotRow (map slot_row found) → AllByRecursion IsSlotRow found
typed_under [] all = tt
typed_under (r ∷ found) all = (record { numbered = all.0.numbered; slot = all.0.slot; body = all.0.body; is = all.0.is }, typed_under found all.1)

few_values : (slot : Slot) (entries : List Entry) (rows : List Row) → map columns_in rows ≡ values_at slot (slots_of entries slot) → length rows ≤ 1
few_values slot entries rows is = by_body (slots_of entries slot) is
  where
    by_body : (o : Option Body) → map columns_in rows ≡ values_at slot o → length rows ≤ 1
    by_body None none = omega (arith, length_map columns_in rows, ap length none)
    by_body (Some body) one = omega (arith, length_map columns_in rows, ap length one)

-- rows that ascend are those that are stored
are_slots_read : (found rows : List Row) (entries : List Entry) → IsPermutation (map slot_row found) rows → AreShownAs rows entries
    → AreAscending entries → AreSlots found (slots_of entries)
are_slots_read found rows entries same all up = record {
  typed = typed_under found (all-permuted IsSlotRow rows (map slot_row found) (IsPermutation-sym (map slot_row found) rows same) (typed_by rows entries all));
  exact = λ slot.
      let exact = exact_by rows entries slot all up in
      let moved : IsPermutation (filter (is_at slot) rows) (map slot_row (filter (is_at slot) found)) =
      subst (IsPermutation (filter (is_at slot) rows)) (filter-map (is_at slot) slot_row found) (IsPermutation-filter (is_at slot) rows
      (map slot_row found) (IsPermutation-sym (map slot_row found) rows same)) in
      let is : filter (is_at slot) rows ≡ map slot_row (filter (is_at slot) found) = few-permutation _ _ moved (few_values slot entries (filter
      (is_at slot) rows) exact) in
      sym (map-map columns_in slot_row (filter (is_at slot) found)) ∙ ap (map columns_in) (sym is) ∙ exact;
}

pub has_read : (old new : State) (rows : List Row) (entries : List Entry) → Shown read_slots_text [] old new rows → AreShownAs rows entries
    → AreAscending entries → HasRead entries old
has_read old new rows entries h all up layout ours = are_slots_read _ rows entries (slot_rows (slots_tree layout) _ rows
    (slots_shown_by layout old new rows ours h)) all up

pub told_slots : (old new : State) (rows : List Row) (r : Result (Vec SlotRow Global) ReadFault) → Shown read_slots_text [] old new rows
    → IfOk r (λ v. AreShownAs rows (map entry_of v.items)) → IfOk r (λ v. AreAscending (map entry_of v.items))
    → IfOk r (λ v. HasRead (map entry_of v.items) old)
told_slots old new rows (Ok v) h all up = has_read old new rows (map entry_of v.items) h all up
told_slots old new rows (Err e) h all up = tt
