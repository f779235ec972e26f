-- What making a table leaves of the database.
use Rattle.std.proofs.Common.{◌≡◌, ℕ, List, [], ◌++◌, false, codes, Ok, None, refl, sym, ap, subst, ◌∙◌, arith}
use Rattle.std.proofs.lemmas.Fmt.{decimal_digit}
use Rattle.sqlite.specs.Listing.{understood}
use Rattle.sqlite.specs.Command.TheVariants.{CreateTable}
use Rattle.sqlite.specs.Compile.{table_defined_by}
use Rattle.sqlite.specs.Change.{created, next_tree, KeepsRows}
use Rattle.sqlite.specs.Schema.{Schema}
use Rattle.sqlite.specs.Table.{Table}
use Rattle.sqlite.specs.Tree.{Trees}
use Rattle.sqlite.specs.Effect.{Database, IsDatabase}
use Rattle.sqlite.specs.Does.{Tally, Does, lacks_sequence}
use Rattle.sqlite.specs.State.{State, mode_of, Executes, CommitsBy}
use Rattle.sqlite.proofs.Callers.{IsPlain, command_of, statement_of}
use Rattle.sqlite_tied.specs.Compute.{everything}
use Rattle.record_rows.proofs.SqlLemmas.{went, same_value}
use Rattle.record_rows.proofs.BesideLemmas.{none_beside, schema_told}
use Rattle.record_rows.proofs.WriteLemmas.{IsWrite, Wrote, has_written, may_write}
use Rattle.record_rows.specs.Added.{SlotsAdded, AddsSlots, HasAddedSlots, LifeAdded, AddsLife, HasAddedLife}
use Rattle.record_rows.specs.Tables.{life_table, slots_table, schema_in, life_alone, slots_alone, schema_of, life_first, slots_first}

abbrev pub life_text : List ℕ
life_text = codes "CREATE TABLE life (one INTEGER PRIMARY KEY CHECK (one = 1), incarnation INTEGER NOT NULL)"

abbrev pub slots_text : List ℕ
slots_text =
    codes "CREATE TABLE slots (id INTEGER NOT NULL, place INTEGER NOT NULL, promised INTEGER NOT NULL, voted INTEGER NOT NULL, "
    ++ codes "chain BLOB NOT NULL, PRIMARY KEY (id, place))"

pub slots_made : (command_of (understood (schema_in life_alone) slots_text) ≡ CreateTable)
    × (statement_of slots_text (understood (schema_in life_alone) slots_text) ≡ slots_text)
    × (table_defined_by slots_text ≡ Ok (slots_table 0))
unfolding understood everything
slots_made = (refl, refl, refl)

pub slots_made_plain : IsPlain (understood (schema_in life_alone) slots_text)
unfolding understood everything
slots_made_plain = (refl, refl)

pub life_made : (command_of (understood (schema_in slots_alone) life_text) ≡ CreateTable)
    × (statement_of life_text (understood (schema_in slots_alone) life_text) ≡ life_text)
    × (table_defined_by life_text ≡ Ok (life_table 0))
unfolding understood everything
life_made = (refl, refl, refl)

pub life_made_plain : IsPlain (understood (schema_in slots_alone) life_text)
unfolding understood everything
life_made_plain = (refl, refl)

pub slots_created : created (schema_in life_alone) (slots_table 0) ≡ schema_of life_first []
slots_created = rw (decimal_digit 1 (omega arith))

pub life_created : created (schema_in slots_alone) (life_table 0) ≡ schema_of slots_first []
life_created = refl

-- a table that is made is empty, and the others keep their rows
pub made : (s : State) (schema : Schema) (table : Table) (text : List ℕ) (tally : Tally) (db : Trees) (after : Database)
    → table_defined_by text ≡ Ok table → lacks_sequence (created schema table) ≡ false
    → Does s.step_limit (mode_of s) [] (record { schema = schema; trees = db }) text None CreateTable (Ok (tally, after))
    → (after.schema ≡ created schema table) × (after.trees (next_tree schema) ≡ []) × KeepsRows schema.tables db after.trees
made s schema table text tally db after defined lacks h =
    let all = went h in
    let first = went all.1 in
    let new = first.1 in
    let same : new.table ≡ table = same_value (sym new.defined ∙ defined) in
    let is : first.0.schema ≡ created schema table = new.is ∙ ap (created schema) same in
    let plain : lacks_sequence first.0.schema ≡ false = ap lacks_sequence is ∙ lacks in
    let now : after ≡ first.0 = ap (λ (p : Tally × Database). p.1) (same_value all.2) ∙ same_value (rw plain at first.2) in (
      ap (λ (d : Database). d.schema) now ∙ is,
      ap (λ (d : Database). d.trees (next_tree schema)) now ∙ new.empty,
      subst (λ (d : Database). KeepsRows schema.tables db d.trees) (sym now) new.others,
    )

pub makes : IsWrite CreateTable
makes = record { runs = λ old new text params count h. h; commit = λ e. cc; release = λ name e. cc }

-- ---- the slots beside the incarnation

module _ (old : State) where
  pub slots_left : (has : old.now.schema ≡ schema_in life_alone) (after : Database)
      → Wrote slots_text [] old (schema_in life_alone) has CreateTable slots_made.0 slots_made_plain makes after
      → (after.schema ≡ schema_of life_first []) × (after.trees 1 ≡ []) × (after.trees 0 ≡ old.now.trees 0)
  slots_left has after w =
      let it = made old (schema_in life_alone) (slots_table 0) _ w.tally old.now.trees after slots_made.2 refl (subst (λ t. Does old.step_limit
      (mode_of old) [] (record { schema = schema_in life_alone; trees = old.now.trees }) t None CreateTable (Ok (w.tally, after))) slots_made.1 w.does) in
      (it.0 ∙ slots_created, it.1, it.2.0)

  pub has_slots : (new : State) (count : ℕ) → Executes slots_text [] old new (Ok count) → HasAddedSlots old new
  has_slots new count h has autocommit =
      let it = has_written slots_text [] old (schema_in life_alone) has CreateTable slots_made.0 slots_made_plain makes new count h in
      let left = slots_left has new.now it.0 in
      record {
        adds = record { empty = left.1; life = left.2; sound = subst (λ k. IsDatabase (record { schema = k; trees = new.now.trees })) left.0 it.0.sound };
        ours = record { is_open = it.1.is_open; schema = schema_told _ _ [] none_beside left.0; autocommit = it.1.mode ∙ autocommit; committed = sym (rw autocommit at it.1.committed_is) };
      }

  pub may_add_slots : (db : Trees) → CommitsBy slots_text [] old db → AddsSlots old db
  may_add_slots db h has =
      let it = may_write slots_text [] old (schema_in life_alone) has CreateTable slots_made.0 slots_made_plain makes db h in
      let left = slots_left has it.0 it.1 in
      subst (SlotsAdded old) (sym it.2) (record {
        empty = left.1;
        life = left.2;
        sound = subst (λ k. IsDatabase
            (record { schema = k; trees = it.0.trees })) left.0 it.1.sound;
      })

-- ---- the incarnation beside the slots

module _ (old : State) where
  life_left : (has : old.now.schema ≡ schema_in slots_alone) (after : Database)
      → Wrote life_text [] old (schema_in slots_alone) has CreateTable life_made.0 life_made_plain makes after
      → (after.schema ≡ schema_of slots_first []) × (after.trees 2 ≡ []) × (after.trees 0 ≡ old.now.trees 0)
  life_left has after w =
      let it = made old (schema_in slots_alone) (life_table 0) _ w.tally old.now.trees after life_made.2 refl (subst (λ t. Does old.step_limit
      (mode_of old) [] (record { schema = schema_in slots_alone; trees = old.now.trees }) t None CreateTable (Ok (w.tally, after))) life_made.1 w.does) in
      (it.0 ∙ life_created, it.1, it.2.0)

  pub has_life_table : (new : State) (count : ℕ) → Executes life_text [] old new (Ok count) → HasAddedLife old new
  has_life_table new count h has autocommit =
      let it = has_written life_text [] old (schema_in slots_alone) has CreateTable life_made.0 life_made_plain makes new count h in
      let left = life_left has new.now it.0 in
      record {
        adds = record { empty = left.1; slots = left.2; sound = subst (λ k. IsDatabase (record { schema = k; trees = new.now.trees })) left.0 it.0.sound };
        ours = record { is_open = it.1.is_open; schema = schema_told _ _ [] none_beside left.0; autocommit = it.1.mode ∙ autocommit; committed = sym (rw autocommit at it.1.committed_is) };
      }

  pub may_add_life : (db : Trees) → CommitsBy life_text [] old db → AddsLife old db
  may_add_life db h has =
      let it = may_write life_text [] old (schema_in slots_alone) has CreateTable life_made.0 life_made_plain makes db h in
      let left = life_left has it.0 it.1 in
      subst (LifeAdded old) (sym it.2) (record {
        empty = left.1;
        slots = left.2;
        sound = subst (λ k. IsDatabase
            (record { schema = k; trees = it.0.trees })) left.0 it.1.sound;
      })
