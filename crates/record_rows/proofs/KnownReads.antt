-- Rows of `known` as they are shown.
use Rattle.std.proofs.Common.{◌≡◌, inl, inr, ◌+◌, ◌<◌, ℕ, true, IfOk, Result, Ok, Err, List, [], ◌∷◌, ◌++◌, length, get_or, map, take, refl, sym, subst}
use Rattle.std.specs.List.{AllByRecursion}
use Rattle.std.proofs.lemmas.List.{map-append, take_more}
use Rattle.sqlite.specs.Order.{Row}
use Rattle.std.specs.Prelude.{Vec}
use Rattle.std.specs.declared.alloc.Global.{Global}
use Rattle.std.specs.List.Sorted.{IsPermutation}
use Rattle.std.proofs.lemmas.List.Sorted.{IsPermutation-map}
use Rattle.sqlite_trees.proofs.ListLemmas.{map-map}
use Rattle.sqlite_rules.specs.Lists.{Has}
use Rattle.sqlite_rules.proofs.ListLemmas.{all_from}
use Rattle.sqlite.specs.Tree.{Trees}
use Rattle.sqlite.specs.Query.{Output, output}
use Rattle.sqlite.specs.Listing.{understood}
use Rattle.sqlite.specs.State.{State, Survives, Shown, CommitsShowing}
use Rattle.sqlite.proofs.Callers.{IsPlain, never_commits, reads_as}
use Rattle.record_rows.specs.declared.fault.ReadFault.{ReadFault}
use Rattle.record_rows.proofs.QueryLemmas.{IsShown, all-permuted, on_table, shows}
use Rattle.record_rows.proofs.ReadLemmas.{every}
use Rattle.record_rows.proofs.ShownLemmas.{all_zip-push}
use Rattle.record_rows.proofs.StateLemmas.{survives_as}
use Rattle.record_rows.specs.declared.known_row.KnownRow.{KnownRow}
use Rattle.record_rows.specs.Known.{AreShownKnown, HasReadKnown, Holds, IsShownKnown, LacksKnown, Known, known_in, known_of, shown_of}
use Rattle.record_rows.proofs.KnownSchemas.{has_both}
use Rattle.record_rows.proofs.KnownTexts.{by_id, read_command, read_is, read_plain, read_text, shown_terms, with_known}

pub shown_more : (shown : List Row) (at : ℕ) (row : Row) (rows : List KnownRow) (next : KnownRow) → at < length shown → row ≡ get_or shown at row
    → AreShownKnown (take at shown) (known_in rows) → IsShownKnown row (known_of next) → AreShownKnown (take (at + 1) shown) (known_in (rows ++ next ∷ []))
shown_more shown at row rows next low is so one =
    rw (take_more shown at row low, ← is, map-append known_of rows (next ∷ [])) (all_zip-push IsShownKnown (take at shown) (known_in rows) row
    (known_of next) so one)

-- ---- what a query shows of them

stored_rows : (found rows : List Row) → IsShown (on_table 4 [] shown_terms by_id) [] found rows → IsPermutation (map shown_of found) rows
stored_rows found rows it = subst (IsPermutation (map shown_of found)) (sym it.are) (subst (λ xs. IsPermutation xs (map (λ
    (o : Output). o.1) it.ordered)) (map-map (λ (o : Output). o.1) (λ r. output (on_table 4 [] shown_terms by_id) ([] ∷ r ∷ [])) found)
    (IsPermutation-map (λ (o : Output). o.1) (map (λ r. output (on_table 4 [] shown_terms by_id) ([] ∷ r ∷ [])) found) it.ordered it.same))

-- a row that is shown is one that is stored
abbrev IsOfStored : List Row → Row → Type 0
IsOfStored found x = (r : Row) × Has found r × (x ≡ shown_of r)

all_stored : (found : List Row) → AllByRecursion (IsOfStored found) (map shown_of found)
all_stored found = all_from (IsOfStored found) (map shown_of found) (λ x has. of_map found x has)
  where
    of_map : (some : List Row) (x : Row) → Has (map shown_of some) x → IsOfStored some x
    of_map [] x has = absurd has
    of_map (r ∷ some) x (inl same) = (r, inl refl, same)
    of_map (r ∷ some) x (inr later) = let it = of_map some x later in (it.0, inr it.1, it.2)

each_holds : (db : Trees) (rows : List Row) (ks : List Known) → AllByRecursion (IsOfStored (db 4)) rows → AreShownKnown rows ks → (k : Known) → Has ks k → Holds db k
each_holds db [] [] all shown k has = absurd has
each_holds db [] (first ∷ ks) all shown k has = absurd shown
each_holds db (x ∷ rows) [] all shown k has = absurd shown
each_holds db (x ∷ rows) (first ∷ ks) all shown k (inl same) =
    (all.0.0, all.0.1, subst (IsShownKnown (shown_of all.0.0)) (sym same) (subst (λ r. IsShownKnown r first) all.0.2 shown.0))
each_holds db (x ∷ rows) (first ∷ ks) all shown k (inr later) = each_holds db rows ks all.1 shown.1 k later

pub has_read : (old new : State) (rows : List Row) (ks : List Known) → Shown read_text [] old new rows → AreShownKnown rows ks → HasReadKnown ks old
has_read old new rows ks h is layout ours has =
    let it = has_both layout old.now.schema ours.schema has in
    let read = reads_as read_text [] old new (with_known layout it.rest) it.is read_command (read_is layout it.rest).0
    (read_plain layout it.rest) (read_is layout it.rest).1 rows h in
    let show = shows 4 [] shown_terms by_id old.now.trees [] rows (λ _. true) (λ r. refl) read.answer in
    let same = subst (λ xs. IsPermutation (map shown_of xs) rows) (every (old.now.trees 4)) (stored_rows _ rows show) in
    each_holds old.now.trees rows ks (all-permuted (IsOfStored (old.now.trees 4)) (map shown_of (old.now.trees 4)) rows same (all_stored (old.now.trees 4))) is

pub told_known : (old new : State) (rows : List Row) (r : Result (Vec KnownRow Global) ReadFault) → Shown read_text [] old new rows
    → IfOk r (λ found. AreShownKnown rows (known_in found.items)) → IfOk r (λ found. HasReadKnown (known_in found.items) old)
told_known old new rows (Ok found) h is = has_read old new rows (known_in found.items) h is
told_known old new rows (Err e) h is = tt

pub strange_survives : (old new : State) → Survives old new (CommitsShowing read_text [] old) → Survives old new (LacksKnown old)
strange_survives old new s = survives_as old new (CommitsShowing read_text [] old) (LacksKnown old) (λ db committed layout ours has.
    let it = has_both layout old.now.schema ours.schema has in
    never_commits read_text [] old db (subst (λ k. IsPlain (understood k read_text)) (sym it.is) (read_plain layout it.rest)) committed) s
