-- What storing whose a store is leaves of a connection.
use Rattle.std.proofs.Common.{◌≡◌, ◌≢◌, ℕ, pos, List, [], ◌∷◌, Option, None, Ok, refl, sym, ap, subst, ◌∙◌, arith}
use Rattle.std.specs.List.{AllByRecursion}
use Rattle.sqlite.specs.declared.types.Value.TheVariants.{Null, Int}
use Rattle.sqlite.specs.Order.{Row}
use Rattle.sqlite.specs.Tree.{Trees}
use Rattle.sqlite.specs.Table.{Table}
use Rattle.sqlite.specs.Schema.{Schema}
use Rattle.sqlite.specs.Term.{Term, lit, col}
use Rattle.sqlite.specs.Effect.{Database}
use Rattle.sqlite.specs.Rows.{Edited, Task, Written}
use Rattle.sqlite.specs.Does.{Tally, Does, OnRows}
use Rattle.sqlite.specs.declared.run.Mode.{Mode}
use Rattle.sqlite.specs.Source.TheVariants.{Values}
use Rattle.sqlite.specs.Command.{Command}
use Rattle.sqlite.specs.Command.TheVariants.{Insert}
use Rattle.sqlite.specs.Edit.{Edit, edit_of, edited, taken_by, Applies}
use Rattle.sqlite.specs.Rowids.TheVariants.{Chosen}
use Rattle.sqlite.specs.Listing.{understood}
use Rattle.sqlite.specs.State.{State, mode_of, Executes}
use Rattle.sqlite_schema.specs.declared.schema.Keys.TheVariants.{Enforced}
use Rattle.sqlite_rules.specs.Action.{works}
use Rattle.sqlite.proofs.Callers.{IsPlain, command_of, one_step, statement_of}
use Rattle.sqlite_tied.specs.Compute.{everything}
use Rattle.record_rows.specs.declared.whose.WhoseRow.{WhoseRow}
use Rattle.record_rows.specs.Beside.{AreBeside, table_of, whose}
use Rattle.record_rows.specs.Tables.{Layout, life_first, slots_first, life_tree, slots_tree, schema_of}
use Rattle.record_rows.specs.Whose.{AreWhose, HasPutWhose, put_whose_text, values_in}
use Rattle.record_rows.proofs.BesideLemmas.{no_actions, same_behind, schema_told, told_beside}
use Rattle.record_rows.proofs.SqlLemmas.{cast_null, cast_int, went, same_value}
use Rattle.record_rows.proofs.WriteLemmas.{IsWrite, has_written}

abbrev whose_terms : List Term
whose_terms = lit (Int (pos 1)) ∷ lit Null ∷ col 0 0 ∷ col 0 1 ∷ col 0 2 ∷ col 0 3 ∷ []

abbrev put_command : Command
put_command = Insert 2 (Values whose_terms 6)

abbrev pub with_whose : Layout → List Table → Schema
with_whose layout rest = schema_of layout (table_of whose 3 ∷ rest)

put_is : (layout : Layout) (rest : List Table) → command_of (understood (with_whose layout rest) put_whose_text) ≡ put_command
unfolding understood everything
put_is life_first rest = refl
put_is slots_first rest = refl

put_plain : (layout : Layout) (rest : List Table) → IsPlain (understood (with_whose layout rest) put_whose_text)
unfolding understood everything
put_plain life_first rest = (refl, refl)
put_plain slots_first rest = (refl, refl)

put_writes : IsWrite put_command
put_writes = record { runs = λ old new text params count h. h; commit = λ e. cc; release = λ name e. cc }

module _ (schema : Schema) (quiet : (olds news : List Row) → works schema Enforced 0 3 olds news ≡ []) (limit : Option ℕ) (row : WhoseRow) where
  abbrev task : Task
  task = record { limit = limit; keys = Enforced; schema = schema; table = table_of whose 3; params = values_in row }

  went_in : (db next : Trees) (edit : Edit) → edit.table ≡ table_of whose 3 → Edited schema Enforced db edit (Ok next) → Applies schema Enforced db edit next
  went_in db next edit is h = one_step schema Enforced db next edit (subst (λ (t : Table). works schema Enforced 0 t.tree
      (taken_by db edit) edit.news ≡ []) (sym is) (quiet (taken_by db edit) edit.news)) h

  record PutsIn (db : Trees) (after : Database) : Type 0 where
    schema_is : after.schema ≡ schema
    rows : db 3 ≡ [] → AreWhose (after.trees 3) row
    others : AllByRecursion (λ t. t.tree ≢ 3 → after.trees t.tree ≡ db t.tree) schema.tables

  put_in : (mode : Mode) (at : ℕ) (db : Trees) (tally : Tally) (after : Database)
      → OnRows task mode None (Insert at (Values whose_terms 6)) db (Ok (tally, after)) → PutsIn db after
  put_in mode at db tally after h =
      let done = went h in
      let given = went done.1 in
      let counted = went given.2 in
      let put = went counted.2 in
      let ended = went put.2 in
      let edit = edit_of db (table_of whose 3) [] Chosen 0 given.0 in
      let applied = went_in db put.0 edit refl put.1 in
      let now : after ≡ record { schema = schema; trees = done.0.trees } = ap (λ (p : Tally × Database). p.1) (same_value (went (went done.2).2).2) in
      let trees : after.trees ≡ put.0 = ap (λ (d : Database). d.trees) now ∙ ap (λ (w : Written). w.trees) (same_value ended.2) ∙ same_value ended.1 in
      record {
        schema_is = ap (λ (d : Database). d.schema) now;
        rows = λ none. ap (λ (ts : Trees). ts 3) trees ∙ applied.rows ∙ ap (λ rs. edited db (edit_of db (table_of whose 3) [] Chosen 0 rs)) given.1.1
            ∙ rw (none, cast_null, cast_int (pos 1), cast_int row.cluster, cast_int row.node, cast_int row.nodes, cast_int row.at);
        others = subst (λ (ts : Trees). AllByRecursion (λ t. t.tree ≢ 3 → ts t.tree ≡ db t.tree) schema.tables) (sym trees) applied.tables;
      }

-- what is left under the schema of a layout
record Left (layout : Layout) (rest : List Table) (row : WhoseRow) (db : Trees) (after : Database) : Type 0 where
  schema : after.schema ≡ with_whose layout rest
  rows : db 3 ≡ [] → AreWhose (after.trees 3) row
  life : after.trees (life_tree layout) ≡ db (life_tree layout)
  slots : after.trees (slots_tree layout) ≡ db (slots_tree layout)

left : (layout : Layout) (rest : List Table) → AreBeside (table_of whose 3 ∷ rest) → (s : State) (row : WhoseRow) (text : List ℕ) (tally : Tally) (db : Trees)
    (after : Database) → Does s.step_limit (mode_of s) (values_in row) (record { schema = with_whose layout rest; trees = db }) text None put_command (Ok
    (tally, after)) → Left layout rest row db after
left life_first rest are s row text tally db after h =
    let it = put_in (with_whose life_first rest) (no_actions life_first (table_of whose 3 ∷ rest) are 3) s.step_limit row (mode_of s) 2 db tally after h in
    record { schema = it.schema_is; rows = it.rows; life = it.others.0 (λ e. omega (arith, e)); slots = it.others.1.0 (λ e. omega (arith, e)) }
left slots_first rest are s row text tally db after h =
    let it = put_in (with_whose slots_first rest) (no_actions slots_first (table_of whose 3 ∷ rest) are 3) s.step_limit row (mode_of s) 2 db tally after h in
    record { schema = it.schema_is; rows = it.rows; life = it.others.1.0 (λ e. omega (arith, e)); slots = it.others.0 (λ e. omega (arith, e)) }

-- the row is stored
pub has_put_whose : (row : WhoseRow) (old new : State) (count : ℕ) → Executes put_whose_text (values_in row) old new (Ok count) → HasPutWhose row old new
has_put_whose row old new count h layout ours has =
    let told = told_beside layout old.now.schema ours.schema in
    let beside = table_of whose 3 ∷ has.0 in
    let are = subst AreBeside (same_behind layout old.now.schema told.0 beside told.2 has.1) told.1 in
    let it = has_written put_whose_text (values_in row) old (with_whose layout has.0) has.1 put_command (put_is layout has.0) (put_plain layout has.0)
    put_writes new count h in
    let l = left layout has.0 are old row (statement_of put_whose_text (understood (with_whose layout has.0) put_whose_text)) it.0.tally old.now.trees
    new.now it.0.does in
    record {
      put = l.rows;
      life = l.life;
      slots = l.slots;
      ours = record {
        is_open = it.1.is_open;
        schema = schema_told layout new.now.schema beside are l.schema;
        autocommit = it.1.mode ∙ ours.autocommit;
        committed = sym (rw ours.autocommit at it.1.committed_is);
      };
    }
