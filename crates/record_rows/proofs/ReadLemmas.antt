-- What is read of the two tables.
use Rattle.std.proofs.Common.{◌≡◌, ◌≢◌, Result, IfOk, IfErr, inl, inr, ℕ, ℤ, true, List, [], ◌∷◌, map, length, Some}
use Rattle.std.proofs.Common.{None, Option, Ok, Err, refl, sym, ap, subst, ◌∙◌, arith}
use Rattle.std.specs.Prelude.{filter}
use Rattle.std.specs.List.Sorted.{IsPermutation}
use Rattle.std.proofs.lemmas.List.Sorted.{IsPermutation-map, length_permutation}
use Rattle.sqlite_trees.proofs.ListLemmas.{map-map}
use Rattle.sqlite.specs.Order.{Row, column}
use Rattle.sqlite.specs.Query.{Output, output}
use Rattle.sqlite.specs.Listing.{understood}
use Rattle.sqlite.specs.Clock.{timed}
use Rattle.sqlite.specs.State.{State, Survives, Shown, ShowsRows, IsUnchanged, CommitsShowing}
use Rattle.sqlite.specs.Schema.{Schema}
use Rattle.sqlite.specs.Table.{Table}
use Rattle.sqlite.proofs.Callers.{IsPlain, reads_as, never_commits, one_permutation}
use Rattle.record_rows.specs.declared.fault.Fault.{Fault}
use Rattle.record_rows.specs.declared.fault.Fault.TheVariants.{Shut}
use Rattle.record_rows.specs.declared.fault.ReadFault.{ReadFault}
use Rattle.record_rows.specs.declared.fault.ReadFault.TheVariants.{Damaged, Failed}
use Rattle.record_rows.specs.Tables.{Layout, life_tree, schema_of}
use Rattle.record_rows.specs.Content.{AreLife}
use Rattle.record_rows.specs.Content.{IsShownLife}
use Rattle.record_rows.specs.Ours.{IsOurs, HasReadLife, HoldsNoLife, IsStrange}
use Rattle.record_rows.proofs.Texts.{read_life_text, life_shown, read_life_command}
use Rattle.record_rows.proofs.Texts.{read_life_is, read_life_plain}
use Rattle.record_rows.proofs.BesideLemmas.{told_beside}
use Rattle.record_rows.proofs.QueryLemmas.{on_table, IsShown, shows}
use Rattle.record_rows.proofs.SlotLemmas.{few-permutation}

-- ---- a query that shows rows changes nothing

pub shown_unchanged : (sql : List ℕ) (params : Row) (old new : State) (schema : Schema) → old.now.schema ≡ schema → IsPlain (understood schema sql)
    → (rows : List Row) → Shown sql params old new rows → IsUnchanged old new
unfolding Shown
shown_unchanged sql params old new schema has plain rows h =
    let known = sym h.1.is ∙ ap (λ s. understood s sql) has in
    let none = (subst IsPlain (sym known) plain).0 in
    (subst (ShowsRows old new sql h.0 (timed params h.0.formats h.1.now) rows) none h.2).3

pub strange_survives : (sql : List ℕ) (params : Row) (old new : State) → ((layout : Layout) (beside : List Table) → IsPlain (understood (schema_of layout beside) sql))
    → Survives old new (CommitsShowing sql params old) → Survives old new (IsStrange old)
strange_survives sql params old new plain s = record {
  clean = s.clean;
  shield = s.shield;
  counts = s.counts;
  limit = s.limit;
  closes = s.closes;
  crash = λ clean db left. elim (s.crash clean db left) [
    | inl before ↦ inl before
    | inr after ↦ inr (λ layout ours. never_commits sql params old db (let it = told_beside layout old.now.schema ours.schema in subst (λ k. IsPlain (understood k sql)) (sym it.2) (plain layout it.0)) after)
  ];
}

pub every : (rows : List Row) → filter (λ _. true) rows ≡ rows
every [] = refl
every (r ∷ rows) = ap (λ rs. r ∷ rs) (every rows)

-- ---- the incarnation

abbrev life_row : Row → Row
life_row r = column r 0 ∷ column r 2 ∷ []

life_rows : (tree : ℕ) (found rows : List Row) → IsShown (on_table tree [] life_shown []) [] found rows → IsPermutation (map life_row found) rows
life_rows tree found rows it = subst (IsPermutation (map life_row found)) (sym it.are) (subst (λ xs. IsPermutation xs (map (λ
    (o : Output). o.1) it.ordered)) (map-map (λ (o : Output). o.1) (λ r. output (on_table tree [] life_shown []) ([] ∷ r ∷ [])) found)
    (IsPermutation-map (λ (o : Output). o.1) (map (λ r. output (on_table tree [] life_shown []) ([] ∷ r ∷ [])) found) it.ordered it.same))

life_from : (found rows : List Row) (last : Option ℤ) → IsPermutation (map life_row found) rows → IsShownLife rows last → AreLife found last
life_from [] rows None same is = refl
life_from (r ∷ found) rows None same is = absurd (omega (arith, length_permutation (map life_row (r ∷ found)) rows same, ap length is))
life_from [] rows (Some n) same is = absurd (omega (arith, length_permutation [] rows same, ap length is.1))
life_from (r ∷ []) rows (Some n) same is =
    let one : is.0 ∷ [] ≡ life_row r ∷ [] = sym is.1 ∙ one_permutation (life_row r) rows same in
    let it : is.0 ≡ life_row r = cc in
    (r, refl, sym (ap (λ (x : Row). column x 0) it) ∙ is.2, sym (ap (λ (x : Row). column x 1) it) ∙ is.3)
life_from (r ∷ s ∷ found) rows (Some n) same is = absurd (omega (arith, length_permutation (map life_row (r ∷ s ∷ found)) rows same, ap length is.1))

life_to : (found rows : List Row) (last : Option ℤ) → IsPermutation (map life_row found) rows → AreLife found last → IsShownLife rows last
life_to found rows None same is = sym (few-permutation (map life_row found) rows same (omega (arith, ap (λ xs. length (map life_row xs)) is)))
    ∙ ap (map life_row) is
life_to found rows (Some n) same is =
    (life_row is.0, one_permutation (life_row is.0) rows (subst (λ xs. IsPermutation (map life_row xs) rows) is.1 same), is.2, is.3)

life_seen : (layout : Layout) (old new : State) (rows : List Row) → IsOurs layout old → Shown read_life_text [] old new rows
    → IsPermutation (map life_row (old.now.trees (life_tree layout))) rows
life_seen layout old new rows ours h =
    let told = told_beside layout old.now.schema ours.schema in
    let read = reads_as read_life_text [] old new (schema_of layout told.0) told.2 (read_life_command layout)
    (read_life_is layout told.0).0 (read_life_plain layout told.0) (read_life_is layout told.0).1 rows h in
    let it = shows (life_tree layout) [] life_shown [] old.now.trees [] rows (λ _. true) (λ r. refl) read.answer in
    subst (λ xs. IsPermutation (map life_row xs) rows) (every (old.now.trees (life_tree layout))) (life_rows (life_tree layout) _ rows it)

pub has_read_life : (old new : State) (rows : List Row) (last : Option ℤ) → Shown read_life_text [] old new rows → IsShownLife rows last
    → HasReadLife last old
has_read_life old new rows last h is layout ours = life_from _ rows last (life_seen layout old new rows ours h) is

pub holds_no_life : (old new : State) (rows : List Row) → Shown read_life_text [] old new rows → ((last : Option ℤ) → IsShownLife rows last → ⊥)
    → HoldsNoLife old
holds_no_life old new rows h none layout ours last are = none last (life_to _ rows last (life_seen layout old new rows ours h) are)

pub told_life : (old new : State) (rows : List Row) (r : Result (Option ℤ) ReadFault) → Shown read_life_text [] old new rows
    → IfOk r (IsShownLife rows) → IfOk r (λ last. HasReadLife last old)
told_life old new rows (Ok last) h is = has_read_life old new rows last h is
told_life old new rows (Err e) h is = tt

pub told_no_life : (old new : State) (rows : List Row) (r : Result (Option ℤ) ReadFault) → Shown read_life_text [] old new rows
    → IfErr r (λ e. (e ≡ Damaged) × ((last : Option ℤ) → IsShownLife rows last → ⊥)) → r ≡ Err Damaged → HoldsNoLife old
told_no_life old new rows (Ok last) h is told = absurd (cc)
told_no_life old new rows (Err e) h is told = holds_no_life old new rows h is.1

-- what a read leaves if it is not shut
pub not_shut : {X : Type 0} (fault : Fault) → ◌≢◌ {A = Result X ReadFault} (Err (Failed fault)) (Err (Failed Shut)) → fault ≢ Shut
not_shut fault apart is = apart (ap (λ f. Err (Failed f)) is)
