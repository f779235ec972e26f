-- What several upserts leave of a connection.
use Rattle.std.proofs.Common.{◌≡◌, ◌==◌, eqb-true, inl, inr, ℕ, true, false, List, [], ◌∷◌, ◌++◌, length, get_or, take, ◌<◌, ◌+◌, Ok, Err, Result, IsTrue, refl, sym, ap, subst, ◌∙◌, arith}
use Rattle.std.proofs.lemmas.List.{take_more}
use Rattle.sqlite.specs.declared.error.Error.{Error}
use Rattle.sqlite.specs.Order.{Row}
use Rattle.sqlite.specs.Tree.{Trees}
use Rattle.sqlite.specs.Table.{Table}
use Rattle.sqlite.specs.Schema.{Schema}
use Rattle.sqlite.specs.Change.{KeepsRows}
use Rattle.sqlite.specs.Effect.{Database, IsDatabase}
use Rattle.sqlite.specs.State.{State, ExecutesInside, KeepsCommit, Shows}
use Rattle.record_rows.specs.declared.row.SlotRow.{SlotRow}
use Rattle.record_rows.specs.Beside.{IsSchemaOf, beside_in}
use Rattle.record_rows.specs.Tables.{Layout, life_tree, slots_tree, schema_of}
use Rattle.record_rows.specs.Content.{Slots, AreSlots, with_row}
use Rattle.record_rows.specs.Ours.{IsOurs}
use Rattle.record_rows.specs.Group.{with_rows, HasPutInside, HasPutRows, PutsRows}
use Rattle.record_rows.proofs.Texts.{put_text, put_command, put_is, put_plain}
use Rattle.record_rows.proofs.PutLemmas.{params_of}
use Rattle.record_rows.proofs.PutStates.{left, put_writes, text_in}
use Rattle.record_rows.proofs.WriteLemmas.{has_written}
use Rattle.record_rows.proofs.BesideLemmas.{keeps_behind, told_beside}

-- ---- one row more

pub one_put : (row : SlotRow) (old new : State) (count : ℕ) → ExecutesInside 0 put_text (params_of row) old new (Ok count) → HasPutInside (row ∷ []) old new
one_put row old new count h = record {
  inside = h.1.mode;
  each = λ layout is.
      let it = told_beside layout old.now.schema is in
      let wrote = (has_written put_text (params_of row) old (schema_of layout it.0) it.2 (put_command layout) (put_is layout it.0 it.1.few)
      (put_plain layout it.0 it.1.few) (put_writes layout) new count h.0).0 in
      let is_left = left layout it.0 it.1 old row (text_in layout it.0) wrote.tally old.now.trees new.now wrote.does in
      record {
        schema = is_left.schema ∙ sym it.2;
        slots = is_left.slots;
        life = is_left.life;
        beside = keeps_behind layout old.now.schema it.0 it.2 old.now.trees new.now.trees is_left.others;
        sound = λ _. wrote.sound;
      };
}

with_both : (rows more : List SlotRow) (slots : Slots) → with_rows more (with_rows rows slots) ≡ with_rows (rows ++ more) slots
with_both [] more slots = refl
with_both (row ∷ rows) more slots = with_both rows more (with_row row slots)

kept_both : (tables : List Table) (a b c : Trees) → KeepsRows tables a b → KeepsRows tables b c → KeepsRows tables a c
kept_both [] a b c one two = tt
kept_both (table ∷ tables) a b c one two = (two.0 ∙ one.0, kept_both tables a b c one.1 two.1)

pub then_put : (rows more : List SlotRow) (a b c : State) → HasPutInside rows a b → HasPutInside more b c → HasPutInside (rows ++ more) a c
then_put rows more a b c first next = record {
  inside = next.inside;
  each = λ layout is.
      let one = first.each layout is in
      let two = next.each layout (subst (IsSchemaOf layout) (sym one.schema) is) in
      record {
        schema = two.schema ∙ one.schema;
        slots = λ slots are. subst (AreSlots (c.now.trees (slots_tree layout))) (with_both rows more slots) (two.slots (with_rows rows slots) (one.slots slots are));
        life = two.life ∙ one.life;
        beside = kept_both (beside_in a.now.schema) a.now.trees b.now.trees c.now.trees one.beside
            (subst (λ (schema : Schema). KeepsRows (beside_in schema) b.now.trees c.now.trees) one.schema two.beside);
        sound = λ sound. two.sound (one.sound sound);
      };
}

pub put_more : (rows : List SlotRow) (at : ℕ) (row : SlotRow) → at < length rows → row ≡ get_or rows at row → (a b c : State)
    → HasPutInside (take at rows) a b → HasPutInside (row ∷ []) b c → HasPutInside (take (at + 1) rows) a c
put_more rows at row low is a b c first next = rw (take_more rows at row low, ← is) (then_put (take at rows) (row ∷ []) a b c first next)

kept_all : (tables : List Table) (trees : Trees) → KeepsRows tables trees trees
kept_all [] trees = tt
kept_all (table ∷ tables) trees = (refl, kept_all tables trees)

-- ---- what was committed

pub keeps_then : (a b c : State) → KeepsCommit a b → KeepsCommit b c → KeepsCommit a c
keeps_then a b c one two = record {
  was_open = λ up. one.was_open (two.was_open up);
  committed = λ up. two.committed up ∙ one.committed (two.was_open up);
}

-- whatever a statement inside a transaction answers, nothing was committed
pub keeps_inside : (sql : List ℕ) (params : Row) (old new : State) (r : Result ℕ Error) → ExecutesInside 0 sql params old new r → KeepsCommit old new
keeps_inside sql params old new (Ok count) h = record { was_open = λ up. h.1.was_open; committed = λ up. h.1.committed_is }
keeps_inside sql params old new (Err e) (inl (ran, inl same)) = record { was_open = λ up. same.0.was_open; committed = λ up. same.0.committed_is }
keeps_inside sql params old new (Err e) (inl (ran, inr back)) = record { was_open = back.was_open; committed = λ up. (back.undone up).1 }
keeps_inside sql params old new (Err e) (inr ends) = record { was_open = λ up. ends.2.0.was_open; committed = λ up. ends.2.0.committed_is }

-- ---- the commit

module _ (rows : List SlotRow) (old begun mid : State) (same : old.now ≡ begun.now) (put : HasPutInside rows begun mid) where
  schema_begun : (layout : Layout) → IsOurs layout old → IsSchemaOf layout begun.now.schema
  schema_begun layout ours = subst (λ (d : Database). IsSchemaOf layout d.schema) same ours.schema

  pub puts_rows : PutsRows rows old mid.now.trees
  puts_rows = record {
    slots = λ layout slots ours are. (put.each layout (schema_begun layout ours)).slots slots
        (subst (λ (d : Database). AreSlots (d.trees (slots_tree layout)) slots) same are);
    life = λ layout ours. (put.each layout (schema_begun layout ours)).life ∙ sym (ap (λ (d : Database). d.trees (life_tree layout)) same);
    beside = λ layout ours. subst (λ (d : Database). KeepsRows (beside_in d.schema) d.trees mid.now.trees) (sym same)
        (put.each layout (schema_begun layout ours)).beside;
    sound = λ layout ours sound.
        let it = put.each layout (schema_begun layout ours) in
        subst (λ (k : Schema). IsDatabase (record { schema = k; trees = mid.now.trees })) (it.schema ∙ sym (ap (λ (d : Database). d.schema) same))
        (it.sound (subst IsDatabase same sound));
  }

  pub has_put_rows : (new : State) → Shows mid new mid.now mid.now false → HasPutRows rows old new
  has_put_rows new shown =
      let kept = λ (layout : Layout) (ours : IsOurs layout old). ap (λ (d : Database). d.schema) shown.now_is
      ∙ (put.each layout (schema_begun layout ours)).schema ∙ sym (ap (λ (d : Database). d.schema) same) in
      record {
        puts = subst (λ (d : Database). PutsRows rows old d.trees) (sym shown.now_is) puts_rows;
        schema = kept;
        ours = λ layout ours. record {
          is_open = shown.is_open;
          schema = subst (IsSchemaOf layout) (sym (kept layout ours)) ours.schema;
          autocommit = shown.mode;
          committed = shown.now_is ∙ sym shown.committed_is;
        };
      }

-- ---- no rows

pub empty_is : {A : Type 0} (items : List A) → (length items == 0) ≡ true → items ≡ []
empty_is [] h = refl
empty_is (first ∷ more) h = absurd (omega (arith, eqb-true (length (first ∷ more)) 0 h))

pub put_nothing : (s : State) → PutsRows [] s s.now.trees
put_nothing s = record {
  slots = λ layout slots ours are. are;
  life = λ layout ours. refl;
  beside = λ layout ours. kept_all (beside_in s.now.schema) s.now.trees;
  sound = λ layout ours sound. sound;
}

pub has_put_nothing : (s : State) → HasPutRows [] s s
has_put_nothing s = record { puts = put_nothing s; schema = λ layout ours. refl; ours = λ layout ours. ours }
