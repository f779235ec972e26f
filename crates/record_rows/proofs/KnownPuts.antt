-- What putting a row into `known` makes of the tables.
use Rattle.std.proofs.Common.{◌≡◌, ◌≢◌, ◌⊎◌, inl, inr, ℕ, ℤ, List, [], ◌∷◌, Some, None, Option, Ok, Err, Result, refl, sym, ap, subst, ◌∙◌}
use Rattle.std.specs.List.{AllByRecursion}
use Rattle.sqlite.specs.declared.types.Value.TheVariants.{Int, Blob}
use Rattle.sqlite.specs.declared.error.Error.{Error}
use Rattle.sqlite.specs.Order.{Row}
use Rattle.sqlite.specs.Tree.{Trees}
use Rattle.sqlite.specs.Schema.{Schema}
use Rattle.sqlite.specs.Table.{Table}
use Rattle.sqlite.specs.Effect.{Database, edit_error}
use Rattle.sqlite.specs.Rows.{Edited, Task, Written, nothing, TriesEach, Tries, Judged, Clears, Puts, count_of}
use Rattle.sqlite.specs.Does.{Tally, OnRows}
use Rattle.sqlite.specs.declared.run.Mode.{Mode}
use Rattle.sqlite.specs.Source.TheVariants.{Values}
use Rattle.sqlite.specs.Command.TheVariants.{InsertOr}
use Rattle.sqlite.specs.Edit.{Edit, edit_of, edited, left_by, taken_by, Applies, with_rowid}
use Rattle.sqlite.specs.Rowids.TheVariants.{Chosen, Given}
use Rattle.sqlite.specs.Cast.{cast_row}
use Rattle.sqlite_schema.specs.declared.schema.Keys.TheVariants.{Enforced}
use Rattle.sqlite_schema.specs.declared.command.Conflict.TheVariants.{Replace}
use Rattle.sqlite_rules.specs.Action.{works}
use Rattle.sqlite_rules.specs.Calls.{ids_of}
use Rattle.sqlite_rules.specs.Lists.{Has}
use Rattle.sqlite_rules.specs.declared.error.Refusal.{Refusal}
use Rattle.sqlite_rules.proofs.TableLemmas.{put_all_has, without_all_has}
use Rattle.sqlite.proofs.Callers.{one_step}
use Rattle.record_rows.specs.Beside.{known, table_of}
use Rattle.record_rows.proofs.SqlLemmas.{cast_null, cast_int, went, same_value}
use Rattle.record_rows.specs.Known.{Known, stored}
use Rattle.record_rows.proofs.KnownTexts.{put_terms}

abbrev pub params_of : Known → Row
params_of k = Int k.id ∷ Int k.place ∷ Int k.voted ∷ Int k.voters ∷ Blob k.chain ∷ []

cast_stored : (k : Known) → cast_row (table_of known 4) (stored k) ≡ stored k
cast_stored k = rw (cast_null, cast_int k.id, cast_int k.place, cast_int k.voted, cast_int k.voters) refl

new_is : (rows : List Row) (k : Known) → with_rowid Chosen rows (cast_row (table_of known 4) (stored k)) ≡ stored k
new_is rows k = rw (cast_null, cast_int k.id, cast_int k.place, cast_int k.voted, cast_int k.voters) refl

-- what an edit leaves was there, or is one of its new rows
edited_has : (db : Trees) (edit : Edit) (r : Row) → Has (edited db edit) r → Has edit.news r ⊎ Has (db edit.table.tree) r
edited_has db edit r has = elim (put_all_has edit.news (left_by db edit) r has) [
  | inl new ↦ inl new
  | inr left ↦ inr (without_all_has edit.gone (db edit.table.tree) r left)
]

module _ (schema : Schema) (quiet : (olds news : List Row) → works schema Enforced 0 4 olds news ≡ []) (limit : Option ℕ) (k : Known) where
  abbrev task : Task
  task = record { limit = limit; keys = Enforced; schema = schema; table = table_of known 4; params = params_of k }

  -- each row was there, or is the new one; and no other table is touched
  pub record Put (db next : Trees) : Type 0 where
    pub only : (r : Row) → Has (next 4) r → (r ≡ stored k) ⊎ Has (db 4) r
    pub others : AllByRecursion (λ t. t.tree ≢ 4 → next t.tree ≡ db t.tree) schema.tables

  then_put : (a b c : Trees) → Put a b → Put b c → Put a c
  then_put a b c first last = record {
    only = λ r has. elim (last.only r has) [ inl new ↦ inl new | inr was ↦ first.only r was ];
    others = then_others schema.tables first.others last.others;
  }
    where
      then_others : (tables : List Table) → AllByRecursion (λ t. t.tree ≢ 4 → b t.tree ≡ a t.tree) tables
          → AllByRecursion (λ t. t.tree ≢ 4 → c t.tree ≡ b t.tree) tables → AllByRecursion (λ t. t.tree ≢ 4 → c t.tree ≡ a t.tree) tables
      then_others [] one two = tt
      then_others (t ∷ tables) one two = (λ apart. two.0 apart ∙ one.0 apart, then_others tables one.1 two.1)

  went_in : (db next : Trees) (edit : Edit) → edit.table ≡ table_of known 4 → Edited schema Enforced db edit (Ok next) → Applies schema Enforced db edit next
  went_in db next edit is h = one_step schema Enforced db next edit (subst (λ (t : Table). works schema Enforced 0 t.tree
      (taken_by db edit) edit.news ≡ []) (sym is) (quiet (taken_by db edit) edit.news)) h

  -- rows are taken out
  removed : (db next : Trees) (ids : List ℤ) → Edited schema Enforced db (edit_of db (table_of known 4) ids Given 0 []) (Ok next) → Put db next
  removed db next ids h =
      let edit = edit_of db (table_of known 4) ids Given 0 [] in
      let applied = went_in db next edit refl h in
      record {
        only = λ r has. elim (edited_has db edit r (subst (λ rows. Has rows r) applied.rows has)) [ inl none ↦ absurd none | inr was ↦ inr was ];
        others = applied.tables;
      }

  -- the row is put in
  added : (db : Trees) (one : Written) → Puts task (stored k) db (Ok one) → Put db one.trees
  added db one h =
      let put = went h in
      let edit = edit_of db (table_of known 4) [] Given 0 (stored k ∷ []) in
      let applied = went_in db put.0 edit refl put.1 in
      let trees : put.0 ≡ one.trees = sym (ap (λ (w : Written). w.trees) (same_value put.2)) in
      subst (Put db) trees (record {
        only = λ r has. elim (edited_has db edit r (subst (λ rows. Has rows r) applied.rows has)) [
          | inl new ↦ elim new [ inl same ↦ inl (same ∙ cast_stored k) | inr none ↦ absurd none ]
          | inr was ↦ inr was
        ];
        others = applied.tables;
      })

  cleared : (db : Trees) (one : Written) (found : List Row) → Clears task Replace (stored k) db found (Ok one) → Put db one.trees
  cleared db one [] h = added db one h
  cleared db one (x ∷ more) h =
      let gone = went h in then_put db gone.0 one.trees (removed db gone.0 (ids_of (x ∷ more)) gone.1) (added gone.0 one gone.2)

  judged_well : (db : Trees) (one : Written) (verdict : Option Refusal) → Judged task Replace [] (stored k) db verdict (Ok one) → Put db one.trees
  judged_well db one None h = cleared db one h.0 h.2
  judged_well db one (Some why) h = absurd (let e : ◌≡◌ {A = Result Written (Option Error)} (Ok one) (Err (Some (edit_error why))) = h in cc)

  tried : (db : Trees) (one : Written) → Tries task Replace [] (stored k) db (Ok one) → Put db one.trees
  tried db one (inl refused) = absurd (let e = refused.1 in cc)
  tried db one (inr judged) = judged_well db one judged.0 judged.2

  pub record Left (db : Trees) (after : Database) : Type 0 where
    pub schema_is : after.schema ≡ schema
    pub put : Put db after.trees

  -- the statement puts it in, and does nothing else
  pub put_in : (mode : Mode) (at : ℕ) (db : Trees) (tally : Tally) (after : Database)
      → OnRows task mode None (InsertOr at Replace (Values put_terms 6) []) db (Ok (tally, after)) → Left db after
  put_in mode at db tally after h =
      let done = went h in
      let given = went done.1 in
      let counted = went given.2 in
      let all = went counted.2 in
      let ended = went all.2 in
      let each = went (subst (λ rs. TriesEach task Replace [] rs (count_of counted.0) (nothing db) (Ok all.0)) given.1.1 all.1) in
      let one = each.0 in
      let first : all.0.0.trees ≡ one.trees = ap (λ (p : Written × ℤ). p.0.trees) (same_value each.2) in
      let last : done.0.trees ≡ one.trees = ap (λ (w : Written). w.trees) (same_value ended.2) ∙ same_value ended.1 ∙ first in
      let now : after ≡ record { schema = schema; trees = done.0.trees } = ap (λ (p : Tally × Database). p.1) (same_value (went (went done.2).2).2) in
      record {
        schema_is = ap (λ (d : Database). d.schema) now;
        put = subst (Put db) (sym (ap (λ (d : Database). d.trees) now ∙ last))
            (tried db one (subst (λ new. Tries task Replace [] new db (Ok one)) (new_is (db 4) k) each.1));
      }
