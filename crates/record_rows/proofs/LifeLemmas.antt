-- What the statements on the incarnation make of its table.
use Rattle.std.proofs.Common.{◌≡◌, ◌≢◌, ℤ, pos, ℕ, true, not, cond, List, [], ◌∷◌, map, Some, None, Option, Ok, refl, sym, ap}
use Rattle.std.proofs.Common.{subst, ◌∙◌}
use Rattle.std.specs.Prelude.{filter}
use Rattle.std.specs.Ordering.{is_eq}
use Rattle.std.specs.List.{AllByRecursion}
use Rattle.std.specs.List.Sorted.{IsPermutation}
use Rattle.sqlite.specs.declared.types.Value.TheVariants.{Null, Int}
use Rattle.sqlite.specs.Order.{Row, value_cmp}
use Rattle.sqlite.specs.Tree.{Trees, rowid, put_row, without_rowid}
use Rattle.sqlite.specs.Schema.{Schema}
use Rattle.sqlite.specs.Effect.{Database}
use Rattle.sqlite.specs.Rows.{Edited, Task, Written}
use Rattle.sqlite.specs.Does.{Tally, OnRows}
use Rattle.sqlite.specs.declared.run.Mode.{Mode}
use Rattle.sqlite.specs.Source.TheVariants.{Values}
use Rattle.sqlite.specs.Command.TheVariants.{Insert, Update}
use Rattle.sqlite.specs.Edit.{Edit, edit_of, edited, taken_by, Applies}
use Rattle.sqlite.specs.Rowids.TheVariants.{Chosen, Given}
use Rattle.sqlite.specs.Table.{Table}
use Rattle.sqlite.specs.Term.{eval_all}
use Rattle.sqlite.specs.Query.{IsSureAnswer, Output, output}
use Rattle.sqlite.specs.Program.{overlay}
use Rattle.sqlite_schema.specs.declared.schema.Keys.TheVariants.{Enforced}
use Rattle.sqlite_rules.specs.Action.{works}
use Rattle.sqlite_rules.specs.Calls.{ids_of}
use Rattle.sqlite_value.proofs.OrderLemmas.{value_cmp-Int}
use Rattle.sqlite.proofs.Callers.{one_step, one_permutation}
use Rattle.record_rows.specs.Tables.{life_table}
use Rattle.record_rows.specs.Content.{AreLife}
use Rattle.record_rows.proofs.Texts.{first_terms, next_shown}
use Rattle.record_rows.proofs.QueryLemmas.{on_table, shows}
use Rattle.record_rows.proofs.SqlLemmas.{cast_null, cast_int, went, same_value}

abbrev stored : ℤ → Row
stored n = Int (pos 1) ∷ Null ∷ Int n ∷ []

is_last : (rows : List Row) (n : ℤ) → rows ≡ stored n ∷ [] → AreLife rows (Some n)
is_last rows n is = (stored n, is, refl, refl)

module _ (schema : Schema) (tree : ℕ) (quiet : (olds news : List Row) → works schema Enforced 0 tree olds news ≡ []) (limit : Option ℕ) (n : ℤ) where
  abbrev task : Task
  task = record { limit = limit; keys = Enforced; schema = schema; table = life_table tree; params = Int n ∷ [] }

  went_in : (db next : Trees) (edit : Edit) → edit.table ≡ life_table tree → Edited schema Enforced db edit (Ok next) → Applies schema Enforced db edit next
  went_in db next edit is h = one_step schema Enforced db next edit (subst (λ (t : Table). works schema Enforced 0 t.tree
      (taken_by db edit) edit.news ≡ []) (sym is) (quiet (taken_by db edit) edit.news)) h

  -- the incarnation is stored, and no other table is touched
  pub record PutsIn (db : Trees) (after : Database) (last : Option ℤ) : Type 0 where
    pub schema_is : after.schema ≡ schema
    pub life : AreLife (db tree) last → AreLife (after.trees tree) (Some n)
    pub others : AllByRecursion (λ t. t.tree ≢ tree → after.trees t.tree ≡ db t.tree) schema.tables

  pub first_put : (mode : Mode) (at : ℕ) (db : Trees) (tally : Tally) (after : Database)
      → OnRows task mode None (Insert at (Values first_terms 3)) db (Ok (tally, after)) → PutsIn db after None
  first_put mode at db tally after h =
      let done = went h in
      let given = went done.1 in
      let counted = went given.2 in
      let put = went counted.2 in
      let ended = went put.2 in
      let edit = edit_of db (life_table tree) [] Chosen 0 given.0 in
      let applied = went_in db put.0 edit refl put.1 in
      let now : after ≡ record { schema = schema; trees = done.0.trees } = ap (λ (p : Tally × Database). p.1) (same_value (went (went done.2).2).2) in
      let trees : after.trees ≡ put.0 = ap (λ (d : Database). d.trees) now ∙ ap (λ (w : Written). w.trees) (same_value ended.2) ∙ same_value ended.1 in
      record {
        schema_is = ap (λ (d : Database). d.schema) now;
        life = λ none. is_last _ n (ap (λ (ts : Trees). ts tree) trees ∙ applied.rows
            ∙ ap (λ rs. edited db (edit_of db (life_table tree) [] Chosen 0 rs)) given.1.1 ∙ rw (none, cast_null, cast_int n, cast_int (pos 1)));
        others = subst (λ (ts : Trees). AllByRecursion (λ t. t.tree ≢ tree → ts t.tree ≡ db t.tree) schema.tables) (sym trees) applied.tables;
      }

  abbrev changed : Row → Row
  changed r = eval_all next_shown ((Int n ∷ []) ∷ r ∷ [])

  -- the one row is found
  found_one : (db : Trees) (rows : List Row) (there : Row) → db tree ≡ there ∷ []
      → IsSureAnswer (on_table tree [] next_shown []) (overlay db []) (Int n ∷ []) rows → rows ≡ changed there ∷ []
  found_one db rows there one answer =
      let it = shows tree [] next_shown [] db (Int n ∷ []) rows (λ _. true) (λ r. refl) answer in
      let o : Output = output (on_table tree [] next_shown []) ((Int n ∷ []) ∷ there ∷ []) in
      let ordered : it.ordered ≡ o ∷ [] = one_permutation o it.ordered (subst (λ rs. IsPermutation (map (λ r. output
      (on_table tree [] next_shown []) ((Int n ∷ []) ∷ r ∷ [])) (filter (λ _. true) rs)) it.ordered) one it.same) in
      it.are ∙ ap (map (λ (p : Output). p.1)) ordered

  alone_left : (there : Row) → rowid there ≡ Int (pos 1) → without_rowid (pos 1) (there ∷ []) ≡ []
  alone_left there is = ap (λ v. cond (not (is_eq (value_cmp v (Int (pos 1))))) (there ∷ []) []) is
      ∙ ap (λ o. cond (not (is_eq o)) (there ∷ []) []) (value_cmp-Int (pos 1) (pos 1))

  next_rows : (db next : Trees) (rows : List Row) (last : ℤ) → AreLife (db tree) (Some last)
      → IsSureAnswer (on_table tree [] next_shown []) (overlay db []) (Int n ∷ []) rows
      → Applies schema Enforced db (edit_of db (life_table tree) (ids_of rows) Given 1 rows) next → next tree ≡ stored n ∷ []
  next_rows db next rows last it answer applied =
      let went = subst (λ rs. Applies schema Enforced db (edit_of db (life_table tree) (ids_of rs) Given 1 rs) next)
      (found_one db rows it.0 it.1 answer) applied in
      went.rows ∙ rw (it.2, cast_null, cast_int n, cast_int (pos 1), it.1) (ap (put_row (stored n)) (alone_left it.0 it.2))

  pub next_put : (mode : Mode) (at : ℕ) (db : Trees) (tally : Tally) (after : Database)
      → OnRows task mode None (Update at (record { lets = []; body = on_table tree [] next_shown [] })) db (Ok (tally, after))
      → (last : ℤ) → PutsIn db after (Some last)
  next_put mode at db tally after h last =
      let done = went h in
      let given = went done.1 in
      let put = went given.2 in
      let edit = edit_of db (life_table tree) (ids_of given.0) Given 1 given.0 in
      let applied = went_in db put.0 edit refl put.1 in
      let now : after ≡ record { schema = schema; trees = done.0.trees } = ap (λ (p : Tally × Database). p.1) (same_value (went (went done.2).2).2) in
      let trees : after.trees ≡ put.0 = ap (λ (d : Database). d.trees) now ∙ ap (λ (w : Written). w.trees) (same_value put.2) in
      record {
        schema_is = ap (λ (d : Database). d.schema) now;
        life = λ one. is_last _ n (ap (λ (ts : Trees). ts tree) trees ∙ next_rows db put.0 given.0 last one given.1.answer applied);
        others = subst (λ (ts : Trees). AllByRecursion (λ t. t.tree ≢ tree → ts t.tree ≡ db t.tree) schema.tables) (sym trees) applied.tables;
      }
