-- What the statements on the incarnation leave of a connection.
use Rattle.std.proofs.Common.{◌≡◌, ℤ, ℕ, List, [], ◌∷◌, Option, None, Some, Ok, sym, ap, subst, ◌∙◌, arith}
use Rattle.sqlite.specs.declared.types.Value.TheVariants.{Int}
use Rattle.sqlite.specs.Table.{Table}
use Rattle.sqlite.specs.Change.{KeepsRows}
use Rattle.sqlite.specs.Tree.{Trees}
use Rattle.sqlite.specs.Command.{Command}
use Rattle.sqlite.specs.Effect.{Database, IsDatabase}
use Rattle.sqlite.specs.Does.{Tally, Does}
use Rattle.sqlite.specs.Listing.{understood}
use Rattle.sqlite.specs.State.{State, mode_of, Executes, CommitsBy}
use Rattle.sqlite.proofs.Callers.{IsPlain, command_of, statement_of}
use Rattle.record_rows.specs.Tables.{Layout, life_first, slots_first, life_tree, slots_tree, schema_of}
use Rattle.record_rows.specs.Beside.{AreBeside}
use Rattle.record_rows.specs.Content.{AreLife}
use Rattle.record_rows.specs.Ours.{IsOurs, PutsLife, HasPutLife}
use Rattle.record_rows.proofs.Texts.{first_text, next_text, first_command, next_command, first_is, first_plain, next_is, next_plain}
use Rattle.record_rows.proofs.LifeLemmas.{PutsIn, first_put, next_put}
use Rattle.record_rows.proofs.WriteLemmas.{IsWrite, has_written, may_write}
use Rattle.record_rows.proofs.PutStates.{sound_as}
use Rattle.record_rows.proofs.BesideLemmas.{no_actions, left_beside, told_beside, schema_told, keeps_behind}

-- what is left of the database, under the schema of a layout
record Left (layout : Layout) (beside : List Table) (last : Option ℤ) (n : ℤ) (db : Trees) (after : Database) : Type 0 where
  schema : after.schema ≡ schema_of layout beside
  life : AreLife (db (life_tree layout)) last → AreLife (after.trees (life_tree layout)) (Some n)
  slots : after.trees (slots_tree layout) ≡ db (slots_tree layout)
  others : KeepsRows beside db after.trees

left : (layout : Layout) (beside : List Table) (are : AreBeside beside) (limit : Option ℕ) (last : Option ℤ) (n : ℤ) (db : Trees) (after : Database)
    → PutsIn (schema_of layout beside) (life_tree layout) (no_actions layout beside are (life_tree layout)) limit n db after last
    → Left layout beside last n db after
left life_first beside are limit last n db after it = record {
  schema = it.schema_is;
  life = it.life;
  slots = it.others.1.0 (λ e. omega (arith, e));
  others = left_beside 0 (omega arith) db after.trees beside are.each it.others.1.1;
}
left slots_first beside are limit last n db after it = record {
  schema = it.schema_is;
  life = it.life;
  slots = it.others.0 (λ e. omega (arith, e));
  others = left_beside 2 (omega arith) db after.trees beside are.each it.others.1.1;
}

first_left : (layout : Layout) (beside : List Table) → AreBeside beside → (s : State) (n : ℤ) (text : List ℕ) (tally : Tally) (db : Trees)
    (after : Database) → Does s.step_limit (mode_of s) (Int n ∷ []) (record { schema = schema_of layout beside; trees = db }) text None
    (first_command layout) (Ok (tally, after)) → Left layout beside None n db after
first_left life_first beside are s n text tally db after h = left life_first beside are s.step_limit None n db after
    (first_put (schema_of life_first beside) 0 (no_actions life_first beside are 0) s.step_limit n (mode_of s) 0 db tally after h)
first_left slots_first beside are s n text tally db after h = left slots_first beside are s.step_limit None n db after
    (first_put (schema_of slots_first beside) 2 (no_actions slots_first beside are 2) s.step_limit n (mode_of s) 1 db tally after h)

next_left : (last : ℤ) (layout : Layout) (beside : List Table) → AreBeside beside → (s : State) (n : ℤ) (text : List ℕ) (tally : Tally) (db : Trees)
    (after : Database) → Does s.step_limit (mode_of s) (Int n ∷ []) (record { schema = schema_of layout beside; trees = db }) text None
    (next_command layout) (Ok (tally, after)) → Left layout beside (Some last) n db after
next_left last life_first beside are s n text tally db after h = left life_first beside are s.step_limit (Some last) n db after
    (next_put (schema_of life_first beside) 0 (no_actions life_first beside are 0) s.step_limit n (mode_of s) 0 db tally after h last)
next_left last slots_first beside are s n text tally db after h = left slots_first beside are s.step_limit (Some last) n db after
    (next_put (schema_of slots_first beside) 2 (no_actions slots_first beside are 2) s.step_limit n (mode_of s) 1 db tally after h last)

module _ (sql : List ℕ) (command : Layout → Command) (is : (layout : Layout) (beside : List Table)
    → command_of (understood (schema_of layout beside) sql) ≡ command layout)
    (plain : (layout : Layout) (beside : List Table) → IsPlain (understood (schema_of layout beside) sql))
    (writes : (layout : Layout) → IsWrite (command layout)) (last : Option ℤ)
    (leaves : (layout : Layout) (beside : List Table) → AreBeside beside → (s : State) (n : ℤ) (text : List ℕ) (tally : Tally) (db : Trees) (after : Database)
    → Does s.step_limit (mode_of s) (Int n ∷ []) (record { schema = schema_of layout beside; trees = db }) text None (command layout) (Ok (tally, after))
    → Left layout beside last n db after)
    (n : ℤ) (old : State) where
  abbrev text_in : Layout → List Table → List ℕ
  text_in layout beside = statement_of sql (understood (schema_of layout beside) sql)

  told : (layout : Layout) → IsOurs layout old → (beside : List Table) × AreBeside beside × (old.now.schema ≡ schema_of layout beside)
  told layout ours = told_beside layout old.now.schema ours.schema

  -- the incarnation is stored
  has_life : (new : State) (count : ℕ) → Executes sql (Int n ∷ []) old new (Ok count) → HasPutLife last n old new
  has_life new count h =
      let wrote = λ (layout : Layout) (ours : IsOurs layout old). let it = told layout ours in has_written sql (Int n ∷ []) old
      (schema_of layout it.0) it.2 (command layout) (is layout it.0) (plain layout it.0) (writes layout) new count h in
      let left_new = λ (layout : Layout) (ours : IsOurs layout old). let it = told layout ours in let w = (wrote layout ours).0 in
      leaves layout it.0 it.1 old n (text_in layout it.0) w.tally old.now.trees new.now w.does in
      let same = λ (layout : Layout) (ours : IsOurs layout old). (left_new layout ours).schema ∙ sym (told layout ours).2 in
      record {
        puts = record {
          life = λ layout ours. (left_new layout ours).life;
          slots = λ layout ours. (left_new layout ours).slots;
          beside = λ layout ours. keeps_behind layout old.now.schema (told layout ours).0 (told layout ours).2 old.now.trees new.now.trees
              (left_new layout ours).others;
          sound = λ layout ours. sound_as old.now.schema new.now (same layout ours) (wrote layout ours).0.sound;
        };
        schema = same;
        ours = λ layout ours.
            let shown = (wrote layout ours).1 in
            record {
              is_open = shown.is_open;
              schema = schema_told layout new.now.schema (told layout ours).0 (told layout ours).1 (left_new layout ours).schema;
              autocommit = shown.mode ∙ ours.autocommit;
              committed = sym (rw ours.autocommit at shown.committed_is);
            };
      }

  -- and so it is in what a stop may leave
  puts_life : (db : Trees) → CommitsBy sql (Int n ∷ []) old db → PutsLife last n old db
  puts_life db h =
      let wrote = λ (layout : Layout) (ours : IsOurs layout old). let it = told layout ours in may_write sql (Int n ∷ []) old
      (schema_of layout it.0) it.2 (command layout) (is layout it.0) (plain layout it.0) (writes layout) db h in
      let left_by = λ (layout : Layout) (ours : IsOurs layout old). let it = told layout ours in let w = wrote layout ours in
      leaves layout it.0 it.1 old n (text_in layout it.0) w.1.tally old.now.trees w.0 w.1.does in
      record {
        life = λ layout ours was. subst (λ (ts : Trees). AreLife (ts (life_tree layout)) (Some n)) (sym (wrote layout ours).2)
            ((left_by layout ours).life was);
        slots = λ layout ours. ap (λ (ts : Trees). ts (slots_tree layout)) (wrote layout ours).2 ∙ (left_by layout ours).slots;
        beside = λ layout ours. keeps_behind layout old.now.schema (told layout ours).0 (told layout ours).2 old.now.trees db
            (subst (KeepsRows (told layout ours).0 old.now.trees) (sym (wrote layout ours).2) (left_by layout ours).others);
        sound = λ layout ours. subst (λ (ts : Trees). IsDatabase (record { schema = old.now.schema; trees = ts })) (sym (wrote layout ours).2)
            (sound_as old.now.schema (wrote layout ours).0 ((left_by layout ours).schema ∙ sym (told layout ours).2) (wrote layout ours).1.sound);
      }

first_writes : (layout : Layout) → IsWrite (first_command layout)
first_writes layout = record { runs = λ old new text params count h. h; commit = λ e. cc; release = λ name e. cc }

next_writes : (layout : Layout) → IsWrite (next_command layout)
next_writes layout = record { runs = λ old new text params count h. h; commit = λ e. cc; release = λ name e. cc }

-- which statement stores the incarnation
abbrev pub text_for : Option ℤ → List ℕ
text_for None = first_text
text_for (Some last) = next_text

pub has_put_life : (last : Option ℤ) (n : ℤ) (old new : State) (count : ℕ) → Executes (text_for last) (Int n ∷ []) old new (Ok count)
    → HasPutLife last n old new
has_put_life None n old new count h = has_life first_text first_command first_is first_plain first_writes None first_left n old new count h
has_put_life (Some last) n old new count h = has_life next_text next_command next_is next_plain next_writes (Some last) (next_left last) n old new count h

pub may_put_life : (last : Option ℤ) (n : ℤ) (old : State) (db : Trees) → CommitsBy (text_for last) (Int n ∷ []) old db → PutsLife last n old db
may_put_life None n old db h = puts_life first_text first_command first_is first_plain first_writes None first_left n old db h
may_put_life (Some last) n old db h = puts_life next_text next_command next_is next_plain next_writes (Some last) (next_left last) n old db h
