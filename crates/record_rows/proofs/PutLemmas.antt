-- What the upsert makes of the tables.
use Rattle.std.proofs.Common.{◌≡◌, ◌≢◌, not, inl, inr, ℤ, ℕ, Bool, true, false, ◌&&◌, ◌||◌, List, [], ◌∷◌, ◌++◌, map, Some, None, Option, Ok}
use Rattle.std.proofs.Common.{Err, Result, refl, sym, ap, subst, ◌∙◌, eq-eqb, arith}
use Rattle.sqlite.specs.declared.types.Value.{Value}
use Rattle.sqlite.specs.declared.types.Value.TheVariants.{Null, Int, Real, Text, Blob}
use Rattle.sqlite.specs.Order.{Row, column, value_cmp}
use Rattle.sqlite.specs.Term.{holds, eval_all}
use Rattle.sqlite.specs.View.{is_int}
use Rattle.std.specs.Ordering.{is_eq}
use Rattle.std.specs.List.Sorted.{IsPermutation}
use Rattle.std.proofs.lemmas.List.Sorted.{length_permutation}
use Rattle.std.proofs.lemmas.Bool.Decides.{Decides-int_eq}
use Rattle.sqlite_value.proofs.OrderLemmas.{value_cmp-Int}
use Rattle.sqlite_rules.specs.Lists.{Has}
use Rattle.sqlite_rules.proofs.TableLemmas.{has_put}
use Rattle.sqlite.specs.Tree.{Trees, put_row, rowid, has_rowid, without_rowid}
use Rattle.std.specs.Prelude.{filter, drop}
use Rattle.std.specs.List.{AllByRecursion, list_all}
use Rattle.sqlite_trees.proofs.ListLemmas.{filter_none}
use Rattle.sqlite_trees.proofs.TreeLemmas.{not_true}
use Rattle.sqlite_rules.proofs.ListLemmas.{all_has, all_from, some_from, has_filtered, has_kept}
use Rattle.sqlite.specs.Schema.{Schema}
use Rattle.sqlite.specs.Effect.{Database, edit_error}
use Rattle.sqlite.specs.declared.error.Error.{Error}
use Rattle.sqlite.specs.Rows.{Edited, Task, Written, nothing, TriesEach, Tries, Judged, Upserts, Meets, Clears, Puts, Updates, shown, count_of}
use Rattle.sqlite.specs.Does.{Tally, OnRows}
use Rattle.sqlite.specs.declared.run.Mode.{Mode}
use Rattle.sqlite.specs.Source.TheVariants.{Values}
use Rattle.sqlite.specs.Command.TheVariants.{InsertOr}
use Rattle.sqlite.specs.Edit.{Edit, id_in, edit_of, taken_by, Applies, with_rowid, next_rowid, numbered, are_fresh, is_taken}
use Rattle.sqlite.specs.Table.{Table}
use Rattle.sqlite_rules.specs.Action.{works}
use Rattle.sqlite.proofs.Callers.{one_step, one_permutation}
use Rattle.sqlite.specs.Cast.{cast, cast_row}
use Rattle.sqlite.specs.Kind.TheVariants.{Integer}
use Rattle.sqlite.specs.Query.{IsSureAnswer, Output, output}
use Rattle.sqlite.specs.Program.{overlay}
use Rattle.sqlite_rules.specs.Calls.{ids_of}
use Rattle.record_rows.proofs.QueryLemmas.{IsShown, shows, all-permuted}
use Rattle.sqlite_trees.proofs.ListLemmas.{map-map}
use Rattle.std.proofs.lemmas.List.Sorted.{IsPermutation-map}
use Rattle.sqlite.specs.Rowids.TheVariants.{Chosen, Given}
use Rattle.sqlite_schema.specs.declared.schema.Keys.{Keys}
use Rattle.sqlite_schema.specs.declared.schema.Keys.TheVariants.{Enforced}
use Rattle.sqlite_schema.specs.declared.schema.Index.{Index}
use Rattle.sqlite_value.specs.Keys.{first_key}
use Rattle.sqlite_rules.specs.declared.error.Refusal.{Refusal}
use Rattle.sqlite_rules.specs.Keys.{conflicts, AreConflicts}
use Rattle.sqlite_schema.specs.declared.command.Conflict.TheVariants.{Abort}
use Rattle.record_rows.specs.declared.row.SlotRow.{SlotRow}
use Rattle.record_rows.specs.Tables.{slots_table, slots_index}
use Rattle.record_rows.specs.Content.{Body, Slots, slot_of, body_of, values_of, columns_in, is_at, with_row, IsSlotRow, AreSlots}
use Rattle.record_rows.proofs.SlotLemmas.{slots_are_one, at_columns, are_slots-added, are_slots-replaced}
use Rattle.record_rows.proofs.Texts.{put_terms, change_test, change_shown, change, clause}
use Rattle.record_rows.proofs.SqlLemmas.{cast_null, cast_int, equals_int, went, same_value}

abbrev pub params_of : SlotRow → Row
params_of row = values_of (slot_of row) (body_of row)

abbrev stored : ℤ → SlotRow → Row
stored id row = Int id ∷ params_of row

new_is : (tree : ℕ) (rows : List Row) (row : SlotRow) → with_rowid Chosen rows (cast_row (slots_table tree) (Null ∷ params_of row)) ≡ stored
    (next_rowid rows) row
new_is tree rows row = rw (cast_null, cast_int row.id, cast_int row.place, cast_int row.promised, cast_int row.voted)

module _ (schema : Schema) (tree : ℕ) (limit : Option ℕ) (keys : Keys) (row : SlotRow) where
  abbrev task : Task
  task = record { limit = limit; keys = keys; schema = schema; table = slots_table tree; params = params_of row }

  -- the row is tried, and nothing else is done
  pub put_is_tried : (mode : Mode) (at : ℕ) (db : Trees) (tally : Tally) (after : Database)
      → OnRows task mode None (InsertOr at Abort (Values put_terms 6) (clause tree ∷ [])) db (Ok (tally, after))
      → (one : Written) × Tries task Abort (clause tree ∷ []) (stored (next_rowid (db tree)) row) db (Ok one)
      × (after ≡ record { schema = schema; trees = one.trees })
  put_is_tried mode at db tally after h =
      let done = went h in
      let given = went done.1 in
      let counted = went given.2 in
      let tried = went counted.2 in
      let ended = went tried.2 in
      let each = went (subst (λ rs. TriesEach task Abort (clause tree ∷ []) rs (count_of counted.0) (nothing db) (Ok tried.0)) given.1.1 tried.1) in
      let one = each.0 in
      let first : tried.0.0.trees ≡ one.trees = ap (λ (p : Written × ℤ). p.0.trees) (same_value each.2) in
      let last : done.0.trees ≡ one.trees = ap (λ (w : Written). w.trees) (same_value ended.2) ∙ same_value ended.1 ∙ first in
      let now : after ≡ record { schema = schema; trees = done.0.trees } = ap (λ (p : Tally × Database). p.1) (same_value (went (went done.2).2).2) in (
        one,
        subst (λ new. Tries task Abort (clause tree ∷ []) new db (Ok one)) (new_is tree (db tree) row) each.1,
        now
            ∙ ap (λ ts. record { schema = schema; trees = ts }) last,
      )

-- ---- the row is new, or one is there

cast_stored : (tree : ℕ) (id : ℤ) (row : SlotRow) → cast_row (slots_table tree) (stored id row) ≡ stored id row
cast_stored tree id row = rw (cast_int id, cast_int row.id, cast_int row.place, cast_int row.promised, cast_int row.voted)

tidy : (a b : Bool) → ((a && (b && true)) || false) ≡ (a && b)
tidy true true = refl
tidy true false = refl
tidy false b = refl

-- a row conflicts with the new one if it stands at its key
conflict_is : (indexes : List Index) (tree index : ℕ) → indexes ≡ slots_index tree index ∷ [] → (id : ℤ) (row : SlotRow) (there : Row)
    → conflicts (Some (1 ∷ 2 ∷ [])) indexes (slots_table tree) (stored id row) there ≡ is_at (slot_of row) there
unfolding first_key
conflict_is indexes tree index is id row there =
    subst (λ all. conflicts (Some (1 ∷ 2 ∷ [])) all (slots_table tree) (stored id row) there ≡ is_at (slot_of row) there) (sym is)
    (rw (eq-eqb tree tree refl, equals_int (column there 1) row.id, equals_int (column there 2) row.place) (tidy _ _))

-- ---- the rows that an update finds

int_of : (v : Value) → is_int v ≡ true → (n : ℤ) × (v ≡ Int n)
int_of Null h = absurd (cc)
int_of (Int n) h = (n, refl)
int_of (Real x) h = absurd (cc)
int_of (Text t) h = absurd (cc)
int_of (Blob b) h = absurd (cc)

and_true : (b : Bool) → (b && true) ≡ b
and_true true = refl
and_true false = refl

-- the rows with this rowid are changed
change_tests : (given : Row) (id : ℤ) → column given 5 ≡ Int id → (r : Row) → list_all (holds (given ∷ r ∷ [])) change_test ≡ has_rowid id r
change_tests given id is r = rw is (and_true _ ∙ equals_int (column r 0) id)

abbrev changed : Row → Row → Row
changed given r = eval_all change_shown (given ∷ r ∷ [])

abbrev source_of : ℕ → Row → Row
source_of tree s = cast_row (slots_table tree) (drop 1 s)

refused_twice : (a b c : Bool) → b ≡ true → (not a && (not b && c)) ≡ true → ⊥
refused_twice a true c is h = not_both (not a) h
  where
    not_both : (x : Bool) → (x && false) ≡ true → ⊥
    not_both true e = cc
    not_both false e = cc
refused_twice a false c is h = cc

not_twice : (left : List Row) (one two : Row) (more : List Row) (id : ℤ) → rowid one ≡ Int id → rowid two ≡ Int id
    → are_fresh left (one ∷ two ∷ more) ≡ true → ⊥
not_twice left one two more id p q fresh =
    let met : is_eq (value_cmp (rowid one) (rowid two)) ≡ true = rw (p, q) (ap is_eq (value_cmp-Int id id) ∙ (Decides-int_eq id id).1 refl) in
    let taken = some_from (λ r. is_eq (value_cmp (rowid r) (rowid two))) (put_row one left) one (has_put one left) met in
    refused_twice (is_taken left one) (is_taken (put_row one left) two) (are_fresh (put_row two (put_row one left)) more) taken fresh

-- two rows with one rowid cannot go in, so one was found
alone : (tree : ℕ) (id : ℤ) (f : Row → Row) (left found rows : List Row) (there : Row) → Has found there → IsPermutation (map f found) rows
    → AllByRecursion (λ s. rowid (source_of tree s) ≡ Int id) rows
    → are_fresh left (numbered Given left (map (source_of tree) rows)) ≡ true → (found ≡ there ∷ []) × (rows ≡ f there ∷ [])
alone tree id f left [] rows there has same all fresh = absurd has
alone tree id f left (x ∷ []) rows there (inl is) same all fresh = (ap (λ y. y ∷ []) (sym is), one_permutation (f x) rows same ∙ ap (λ y. f y ∷ []) (sym is))
alone tree id f left (x ∷ []) rows there (inr has) same all fresh = absurd has
alone tree id f left (x ∷ y ∷ more) [] there has same all fresh = absurd (omega (arith, length_permutation (map f (x ∷ y ∷ more)) [] same))
alone tree id f left (x ∷ y ∷ more) (a ∷ []) there has same all fresh = absurd (omega (arith, length_permutation (map f (x ∷ y ∷ more)) (a ∷ []) same))
alone tree id f left (x ∷ y ∷ more) (a ∷ b ∷ others) there has same all fresh = absurd (not_twice left (source_of tree a)
    (source_of tree b) _ id all.0 all.1.0 fresh)

all-map : {A B : Type 0} (P : B → Type 0) (f : A → B) (xs : List A) → AllByRecursion (λ x. P (f x)) xs → AllByRecursion P (map f xs)
all-map P f [] all = tt
all-map P f (x ∷ xs) all = (all.0, all-map P f xs all.1)

found_are : (tree : ℕ) (given : Row) (kept rows : List Row) → IsShown (change tree) given kept rows → IsPermutation (map (changed given) kept) rows
found_are tree given kept rows it = subst (IsPermutation (map (changed given) kept)) (sym it.are) (subst (λ xs. IsPermutation xs (map (λ
    (o : Output). o.1) it.ordered)) (map-map (λ (o : Output). o.1) (λ r. output (change tree) (given ∷ r ∷ [])) kept)
    (IsPermutation-map (λ (o : Output). o.1) (map (λ r. output (change tree) (given ∷ r ∷ [])) kept) it.ordered it.same))

-- each row that is found has the rowid, and keeps it
ids_are : (tree : ℕ) (given : Row) (id : ℤ) (rows : List Row) → AllByRecursion IsSlotRow rows
    → AllByRecursion (λ r. rowid (source_of tree (changed given r)) ≡ Int id) (filter (has_rowid id) rows)
ids_are tree given id rows typed = all_from _ (filter (has_rowid id) rows) (λ r has.
    let kept = has_filtered (has_rowid id) rows r has in
    let it = int_of (rowid r) (all_has IsSlotRow rows r typed kept.0).numbered in
    let same : it.0 ≡ id = (Decides-int_eq it.0 id).0 (sym (ap is_eq (value_cmp-Int it.0 id)) ∙ sym (ap (λ v. is_eq (value_cmp v (Int id))) it.1) ∙ kept.1) in
    ap (cast Integer) it.1 ∙ cast_int it.0 ∙ ap Int same)

free_of : (b : Bool) → (not b && true) ≡ true → b ≡ false
free_of true h = absurd (cc)
free_of false h = refl

module _ (schema : Schema) (tree index : ℕ) (indexed : schema.indexes ≡ slots_index tree index ∷ []) (limit : Option ℕ) (row : SlotRow) where
  judged_well : (new : Row) (db : Trees) (one : Written) (verdict : Option Refusal)
      → Judged (task schema tree limit Enforced row) Abort (clause tree ∷ []) new db verdict (Ok one)
      → Upserts (task schema tree limit Enforced row) Abort new db (clause tree ∷ []) (Ok one)
  judged_well new db one None h = h
  judged_well new db one (Some why) h = absurd (let e : ◌≡◌ {A = Result Written (Option Error)} (Ok one) (Err (Some (edit_error why))) = h in cc)

  cleared : (new : Row) (db : Trees) (one : Written) (found : List Row) → Clears (task schema tree limit Enforced row) Abort new db found (Ok one)
      → Puts (task schema tree limit Enforced row) new db (Ok one)
  cleared new db one [] h = h
  cleared new db one (x ∷ more) h = h

  -- the rows of an edit that went in
  went_in : (db next : Trees) (edit : Edit) → edit.table ≡ slots_table tree → ((olds news : List Row)
      → works schema Enforced 0 tree olds news ≡ []) → Edited schema Enforced db edit (Ok next) → Applies schema Enforced db edit next
  went_in db next edit is quiet h = one_step schema Enforced db next edit (subst (λ (t : Table). works schema Enforced 0 t.tree
      (taken_by db edit) edit.news ≡ []) (sym is) (quiet (taken_by db edit) edit.news)) h

  -- what the table holds then, and that no other table is touched
  pub record Put (db next : Trees) : Type 0 where
    pub slots : (slots : Slots) → AreSlots (db tree) slots → AreSlots (next tree) (with_row row slots)
    pub others : AllByRecursion (λ t. t.tree ≢ tree → next t.tree ≡ db t.tree) schema.tables

  added : (id : ℤ) (db : Trees) (one : Written) → ((olds news : List Row) → works schema Enforced 0 tree olds news ≡ [])
      → AreConflicts (Some (1 ∷ 2 ∷ [])) schema.indexes (slots_table tree) (db tree) (stored id row) []
      → Puts (task schema tree limit Enforced row) (stored id row) db (Ok one) → Put db one.trees
  added id db one quiet found h =
      let put = went h in
      let new = stored id row in
      let edit = edit_of db (slots_table tree) [] Given 0 (new ∷ []) in
      let applied = went_in db put.0 edit refl quiet put.1 in
      let trees : put.0 ≡ one.trees = sym (ap (λ (w : Written). w.trees) (same_value put.2)) in
      let rows : put.0 tree ≡ put_row new (db tree) = applied.rows ∙ ap (λ r. put_row r (db tree)) (cast_stored tree id row) in
      let free : is_taken (db tree) new ≡ false = free_of _ (subst (λ r. are_fresh (db tree) (r ∷ []) ≡ true) (cast_stored tree id row) applied.fresh) in
      let none : filter (is_at (slot_of row)) (db tree) ≡ [] = filter_none (is_at (slot_of row)) (db tree) (all_from _ (db tree)
      (λ r has. not_true _ (λ at. found.complete r has (conflict_is schema.indexes tree index indexed id row r ∙ at)))) in
      record {
        slots = λ slots are. subst (λ ts. AreSlots (ts tree) (with_row row slots)) trees (subst (λ rs. AreSlots rs (with_row row slots)) (sym rows)
            (are_slots-added (db tree) slots new row are refl refl free none));
        others = subst (λ ts. AllByRecursion (λ t. t.tree ≢ tree → ts t.tree ≡ db t.tree) schema.tables) trees applied.tables;
      }

  one_changed : (id : ℤ) (db next : Trees) (there : Row) (rows : List Row) (slots : Slots) (it : Row) (k : ℤ) (was : Body)
      → AreSlots (db tree) slots → filter (has_rowid k) (db tree) ≡ it ∷ []
      → rows ≡ changed (params_of row ++ rowid there ∷ shown (slots_table tree) (stored id row)) it ∷ [] → rowid it ≡ Int k
      → columns_in it ≡ values_of (slot_of row) was
      → Applies schema Enforced db (edit_of db (slots_table tree) (ids_of rows) Given 1 rows) next → AreSlots (next tree) (with_row row slots)
  one_changed id db next there rows slots it k was are alone found numbered columns applied =
      let given = params_of row ++ rowid there ∷ shown (slots_table tree) (stored id row) in
      let went = subst (λ rs. Applies schema Enforced db (edit_of db (slots_table tree) (ids_of rs) Given 1 rs) next) found applied in
      let first : column it 1 ≡ Int row.id = ap (λ (r : Row). column r 0) columns in
      let second : column it 2 ≡ Int row.place = ap (λ (r : Row). column r 1) columns in
      let new : source_of tree (changed given it) ≡ stored k row = rw
      (numbered, first, second, cast_int k, cast_int row.id, cast_int row.place, cast_int row.promised, cast_int row.voted) in
      let gone : id_in (rowid it) ≡ k = ap id_in numbered in
      let rest = λ (i : ℤ). without_rowid i (db tree) in
      let is : next tree ≡ put_row (stored k row) (rest k) = went.rows ∙ ap (λ r. put_row r (rest (id_in (rowid it)))) new
      ∙ ap (λ i. put_row (stored k row) (rest i)) gone in
      let fresh : are_fresh (rest k) (stored k row ∷ []) ≡ true = subst (λ i. are_fresh (rest i) (stored k row ∷ []) ≡ true) gone (subst
      (λ r. are_fresh (rest (id_in (rowid it))) (r ∷ []) ≡ true) new went.fresh) in
      subst (λ rs. AreSlots rs (with_row row slots)) (sym is) (are_slots-replaced (db tree) slots k it
      (stored k row) row was are alone columns refl refl (free_of _ fresh))

  holds_row : (id : ℤ) (db next : Trees) (there : Row) (more rows : List Row) (slots : Slots)
      → AreConflicts (Some (1 ∷ 2 ∷ [])) schema.indexes (slots_table tree) (db tree) (stored id row) (there ∷ more)
      → AreSlots (db tree) slots → IsSureAnswer (change tree) (overlay db []) (params_of row ++ rowid there ∷ shown (slots_table tree) (stored id row)) rows
      → Applies schema Enforced db (edit_of db (slots_table tree) (ids_of rows) Given 1 rows) next → AreSlots (next tree) (with_row row slots)
  holds_row id db next there more rows slots found are answer applied =
      let given = params_of row ++ rowid there ∷ shown (slots_table tree) (stored id row) in
      let hit = found.sound there (inl refl) in
      let it = hit.0 in
      let typed : IsSlotRow it = all_has IsSlotRow (db tree) it are.typed hit.1 in
      let k = int_of (rowid it) typed.numbered in
      let fifth : column given 5 ≡ Int k.0 = ap rowid hit.3 ∙ k.1 in
      let at : is_at (slot_of row) it ≡ true = sym (conflict_is schema.indexes tree index indexed id row it) ∙ hit.2 in
      let here : typed.slot ≡ slot_of row = slots_are_one typed.slot (slot_of row) (sym (at_columns it typed.slot (slot_of row) typed.body typed.is) ∙ at) in
      let columns : columns_in it ≡ values_of (slot_of row) typed.body = subst (λ s. columns_in it ≡ values_of s typed.body) here typed.is in
      let select = shows tree change_test change_shown [] db given rows (has_rowid k.0) (change_tests given k.0 fifth) answer in
      let kept = filter (has_rowid k.0) (db tree) in
      let same : IsPermutation (map (changed given) kept) rows = found_are tree given kept rows select in
      let there_is : Has kept it = has_kept (has_rowid k.0) (db tree) it hit.1 (ap (λ v. is_eq (value_cmp v (Int k.0))) k.1
      ∙ ap is_eq (value_cmp-Int k.0 k.0) ∙ (Decides-int_eq k.0 k.0).1 refl) in
      let ids = all-permuted (λ s. rowid (source_of tree s) ≡ Int k.0) (map (changed given) kept) rows same (all-map (λ s. rowid
      (source_of tree s) ≡ Int k.0) (changed given) kept (ids_are tree given k.0 (db tree) are.typed)) in
      let only = alone tree k.0 (changed given) _ kept rows it there_is same ids applied.fresh in
      one_changed id db next there rows slots it k.0 typed.body are only.0 only.1 k.1 columns applied

  replaced : (id : ℤ) (db : Trees) (one : Written) (there : Row) (more : List Row) → ((olds news : List Row) → works schema Enforced 0 tree olds news ≡ [])
      → AreConflicts (Some (1 ∷ 2 ∷ [])) schema.indexes (slots_table tree) (db tree) (stored id row) (there ∷ more)
      → Updates (task schema tree limit Enforced row) (record { lets = []; body = change tree }) (params_of row ++ rowid there ∷ shown
      (slots_table tree) (stored id row)) db (Ok one)
      → Put db one.trees
  replaced id db one there more quiet found h =
      let given = params_of row ++ rowid there ∷ shown (slots_table tree) (stored id row) in
      let put = went h in
      let done = went put.2 in
      let edit = edit_of db (slots_table tree) (ids_of put.0) Given 1 put.0 in
      let applied = went_in db done.0 edit refl quiet done.1 in
      let trees : done.0 ≡ one.trees = sym (ap (λ (w : Written). w.trees) (same_value done.2)) in
      record {
        slots = λ slots are. subst (λ ts. AreSlots (ts tree) (with_row row slots)) trees
            (holds_row id db done.0 there more put.0 slots found are put.1.answer applied);
        others = subst (λ ts. AllByRecursion (λ t. t.tree ≢ tree → ts t.tree ≡ db t.tree) schema.tables) trees applied.tables;
      }

  -- what a row that was tried leaves
  pub puts : (id : ℤ) (db : Trees) (one : Written) → ((olds news : List Row) → works schema Enforced 0 tree olds news ≡ [])
      → Tries (task schema tree limit Enforced row) Abort (clause tree ∷ []) (stored id row) db (Ok one)
      → Put db one.trees
  puts id db one quiet (inl refused) = absurd (let e = refused.1 in cc)
  puts id db one quiet (inr tried) =
      let met = judged_well (stored id row) db one tried.0 tried.2 in by_found met.0 met.1 met.2
    where
      by_found : (found : List Row) → AreConflicts (Some (1 ∷ 2 ∷ [])) schema.indexes (slots_table tree) (db tree) (stored id row) found
          → Meets (task schema tree limit Enforced row) (Upserts (task schema tree limit Enforced row) Abort (stored id row) db [])
          (stored id row) db (clause tree) found (Ok one) → Put db one.trees
      by_found [] found h = added id db one quiet found (cleared (stored id row) db one h.0 h.2)
      by_found (there ∷ more) found h = replaced id db one there more quiet found h
