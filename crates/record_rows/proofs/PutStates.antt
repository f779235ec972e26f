-- What the upsert leaves of a connection.
use Rattle.std.proofs.Common.{◌≡◌, ℕ, List, [], ◌∷◌, None, Ok, refl, sym, ap, subst, ◌∙◌, arith}
use Rattle.sqlite.specs.declared.types.Value.TheVariants.{Int, Blob}
use Rattle.sqlite.specs.declared.types.ValueRef.{ValueRef}
use Rattle.sqlite.specs.Value.{owned}
use Rattle.sqlite.specs.Values.{bound}
use Rattle.sqlite.specs.Tree.{Trees}
use Rattle.sqlite.specs.Schema.{Schema}
use Rattle.sqlite.specs.Table.{Table}
use Rattle.sqlite.specs.Change.{KeepsRows}
use Rattle.sqlite.specs.Effect.{Database, IsDatabase}
use Rattle.sqlite.specs.Does.{Tally, Does}
use Rattle.sqlite.specs.Listing.{understood}
use Rattle.sqlite.proofs.Callers.{statement_of}
use Rattle.sqlite.specs.State.{State, mode_of, Executes, CommitsBy}
use Rattle.sqlite_schema.specs.declared.schema.Keys.TheVariants.{Enforced}
use Rattle.record_rows.specs.declared.row.SlotRow.{SlotRow}
use Rattle.record_rows.specs.Tables.{Layout, life_first, slots_first, life_tree, slots_tree, schema_of}
use Rattle.record_rows.specs.Beside.{AreBeside}
use Rattle.record_rows.specs.Content.{Slots, with_row, AreSlots}
use Rattle.record_rows.specs.Ours.{IsOurs, PutsRow, HasPut}
use Rattle.record_rows.proofs.Texts.{put_text, put_command, put_is, put_plain}
use Rattle.record_rows.proofs.PutLemmas.{params_of, put_is_tried, puts}
use Rattle.record_rows.proofs.WriteLemmas.{IsWrite, has_written, may_write}
use Rattle.record_rows.proofs.BesideLemmas.{no_actions, left_beside, told_beside, schema_told, keeps_behind}

-- the values as they are bound
pub bound_are : (row : SlotRow) (id place promised voted chain : ValueRef) → owned id ≡ Int row.id → owned place ≡ Int row.place
    → owned promised ≡ Int row.promised → owned voted ≡ Int row.voted
    → owned chain ≡ Blob row.chain.items → bound (id ∷ place ∷ promised ∷ voted ∷ chain ∷ []) ≡ params_of row
bound_are row id place promised voted chain a b c d e = rw (a, b, c, d, e)

-- what is left of the database, under the schema of a layout
pub record Left (layout : Layout) (beside : List Table) (row : SlotRow) (db : Trees) (after : Database) : Type 0 where
  pub schema : after.schema ≡ schema_of layout beside
  pub slots : (slots : Slots) → AreSlots (db (slots_tree layout)) slots → AreSlots (after.trees (slots_tree layout)) (with_row row slots)
  pub life : after.trees (life_tree layout) ≡ db (life_tree layout)
  pub others : KeepsRows beside db after.trees

pub left : (layout : Layout) (beside : List Table) → AreBeside beside → (s : State) (row : SlotRow) (text : List ℕ) (tally : Tally) (db : Trees) (after : Database)
    → Does s.step_limit (mode_of s) (params_of row) (record { schema = schema_of layout beside; trees = db }) text None (put_command layout) (Ok
    (tally, after)) → Left layout beside row db after
left life_first beside are s row text tally db after h =
    let schema = schema_of life_first beside in
    let tried = put_is_tried schema 1 s.step_limit Enforced row (mode_of s) 1 db tally after h in
    let put = puts schema 1 2 refl s.step_limit row _ db tried.0 (no_actions life_first beside are 1) tried.1 in
    let trees : after.trees ≡ tried.0.trees = ap (λ (d : Database). d.trees) tried.2 in
    record {
      schema = ap (λ (d : Database). d.schema) tried.2;
      slots = λ slots are. subst (λ ts. AreSlots (ts 1) (with_row row slots)) (sym trees) (put.slots slots are);
      life = ap (λ (ts : Trees). ts 0) trees ∙ put.others.0 (λ e. omega (arith, e));
      others = subst (KeepsRows beside db) (sym trees) (left_beside 1 (omega arith) db tried.0.trees beside are.each put.others.1.1);
    }
left slots_first beside are s row text tally db after h =
    let schema = schema_of slots_first beside in
    let tried = put_is_tried schema 0 s.step_limit Enforced row (mode_of s) 0 db tally after h in
    let put = puts schema 0 1 refl s.step_limit row _ db tried.0 (no_actions slots_first beside are 0) tried.1 in
    let trees : after.trees ≡ tried.0.trees = ap (λ (d : Database). d.trees) tried.2 in
    record {
      schema = ap (λ (d : Database). d.schema) tried.2;
      slots = λ slots are. subst (λ ts. AreSlots (ts 0) (with_row row slots)) (sym trees) (put.slots slots are);
      life = ap (λ (ts : Trees). ts 2) trees ∙ put.others.1.0 (λ e. omega (arith, e));
      others = subst (KeepsRows beside db) (sym trees) (left_beside 0 (omega arith) db tried.0.trees beside are.each put.others.1.1);
    }

pub sound_as : (schema : Schema) (after : Database) → after.schema ≡ schema → IsDatabase after → IsDatabase (record { schema = schema; trees = after.trees })
sound_as schema after is sound = subst (λ k. IsDatabase (record { schema = k; trees = after.trees })) is sound

pub put_writes : (layout : Layout) → IsWrite (put_command layout)
put_writes layout = record { runs = λ old new text params count h. h; commit = λ e. cc; release = λ name e. cc }

abbrev pub text_in : Layout → List Table → List ℕ
text_in layout beside = statement_of put_text (understood (schema_of layout beside) put_text)

module _ (row : SlotRow) (old : State) where
  told : (layout : Layout) → IsOurs layout old → (beside : List Table) × AreBeside beside × (old.now.schema ≡ schema_of layout beside)
  told layout ours = told_beside layout old.now.schema ours.schema

  -- the upsert has put the row in
  pub has_put : (new : State) (count : ℕ) → Executes put_text (params_of row) old new (Ok count) → HasPut row old new
  has_put new count h =
      let wrote = λ (layout : Layout) (ours : IsOurs layout old). let it = told layout ours in has_written put_text (params_of row) old
      (schema_of layout it.0) it.2 (put_command layout) (put_is layout it.0 it.1.few) (put_plain layout it.0 it.1.few) (put_writes layout) new count h in
      let left_new = λ (layout : Layout) (ours : IsOurs layout old). let it = told layout ours in let w = (wrote layout ours).0 in
      left layout it.0 it.1 old row (text_in layout it.0) w.tally old.now.trees new.now w.does in
      let same = λ (layout : Layout) (ours : IsOurs layout old). (left_new layout ours).schema ∙ sym (told layout ours).2 in
      record {
        puts = record {
          slots = λ layout slots ours are. (left_new layout ours).slots slots are;
          life = λ layout ours. (left_new layout ours).life;
          beside = λ layout ours. keeps_behind layout old.now.schema (told layout ours).0 (told layout ours).2 old.now.trees new.now.trees
              (left_new layout ours).others;
          sound = λ layout ours. sound_as old.now.schema new.now (same layout ours) (wrote layout ours).0.sound;
        };
        schema = same;
        ours = λ layout ours.
            let shown = (wrote layout ours).1 in
            record {
              is_open = shown.is_open;
              schema = schema_told layout new.now.schema (told layout ours).0 (told layout ours).1 (left_new layout ours).schema;
              autocommit = shown.mode ∙ ours.autocommit;
              committed = sym (rw ours.autocommit at shown.committed_is);
            };
      }

  -- and so has what it may leave if it is stopped
  pub puts_row : (db : Trees) → CommitsBy put_text (params_of row) old db → PutsRow row old db
  puts_row db h =
      let wrote = λ (layout : Layout) (ours : IsOurs layout old). let it = told layout ours in may_write put_text (params_of row) old
      (schema_of layout it.0) it.2 (put_command layout) (put_is layout it.0 it.1.few) (put_plain layout it.0 it.1.few) (put_writes layout) db h in
      let left_by = λ (layout : Layout) (ours : IsOurs layout old). let it = told layout ours in let w = wrote layout ours in
      left layout it.0 it.1 old row (text_in layout it.0) w.1.tally old.now.trees w.0 w.1.does in
      record {
        slots = λ layout slots ours are. subst (λ (ts : Trees). AreSlots (ts (slots_tree layout)) (with_row row slots)) (sym (wrote layout ours).2)
            ((left_by layout ours).slots slots are);
        life = λ layout ours. ap (λ (ts : Trees). ts (life_tree layout)) (wrote layout ours).2 ∙ (left_by layout ours).life;
        beside = λ layout ours. keeps_behind layout old.now.schema (told layout ours).0 (told layout ours).2 old.now.trees db
            (subst (KeepsRows (told layout ours).0 old.now.trees) (sym (wrote layout ours).2) (left_by layout ours).others);
        sound = λ layout ours. subst (λ (ts : Trees). IsDatabase (record { schema = old.now.schema; trees = ts })) (sym (wrote layout ours).2)
            (sound_as old.now.schema (wrote layout ours).0 ((left_by layout ours).schema ∙ sym (told layout ours).2) (wrote layout ours).1.sound);
      }
