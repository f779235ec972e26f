-- What making both tables in one transaction leaves.
use Rattle.std.proofs.Common.{◌≡◌, ℕ, [], Ok, None, false, refl, sym, ap, subst, ◌∙◌, arith}
use Rattle.sqlite.specs.Listing.{understood}
use Rattle.sqlite.specs.Command.TheVariants.{CreateTable}
use Rattle.sqlite.specs.Compile.{table_defined_by}
use Rattle.sqlite.specs.Tree.{Trees}
use Rattle.sqlite.specs.Effect.{Database, IsDatabase}
use Rattle.sqlite.specs.Does.{Does}
use Rattle.sqlite.specs.State.{State, HasCleanDisk, mode_of, Shows, Survives, ExecutesInside}
use Rattle.sqlite.proofs.Callers.{IsPlain, command_of, statement_of}
use Rattle.sqlite.proofs.StateLemmas.{survives_then}
use Rattle.sqlite_tied.specs.Compute.{everything}
use Rattle.record_rows.proofs.CreateLemmas.{life_text, slots_text, made, makes, slots_made, slots_made_plain, slots_left}
use Rattle.record_rows.proofs.BesideLemmas.{none_beside, schema_told}
use Rattle.record_rows.proofs.WriteLemmas.{has_written}
use Rattle.record_rows.specs.Added.{BothAdded, AreBothAdded}
use Rattle.record_rows.specs.Tables.{life_table, schema_in, neither, life_alone, schema_of, life_first}

pub first_made : (command_of (understood (schema_in neither) life_text) ≡ CreateTable)
    × (statement_of life_text (understood (schema_in neither) life_text) ≡ life_text)
    × (table_defined_by life_text ≡ Ok (life_table 0))
unfolding understood everything
first_made = (refl, refl, refl)

pub first_made_plain : IsPlain (understood (schema_in neither) life_text)
unfolding understood everything
first_made_plain = (refl, refl)

-- inside the transaction: `life` is there, and empty
pub record IsBegun (s : State) : Type 0 where
  pub schema : s.now.schema ≡ schema_in life_alone
  pub empty : s.now.trees 0 ≡ []

-- and then both
pub record AreMade (s : State) : Type 0 where
  pub schema : s.now.schema ≡ schema_of life_first []
  pub added : BothAdded s.now.trees

pub life_begun : (old new : State) (count : ℕ) → old.now.schema ≡ schema_in neither → ExecutesInside 0 life_text [] old new (Ok count) → IsBegun new
life_begun old new count has h =
    let it = has_written life_text [] old (schema_in neither) has CreateTable first_made.0 first_made_plain makes new count h.0 in
    let w = it.0 in
    let left = made old (schema_in neither) (life_table 0) _ w.tally old.now.trees new.now first_made.2 refl (subst (λ t. Does old.step_limit
    (mode_of old) [] (record { schema = schema_in neither; trees = old.now.trees }) t None CreateTable (Ok (w.tally, new.now))) first_made.1 w.does) in
    record { schema = left.0; empty = left.1 }

pub both_made : (old new : State) (count : ℕ) → IsBegun old → ExecutesInside 0 slots_text [] old new (Ok count) → AreMade new
both_made old new count begun h =
    let it = has_written slots_text [] old (schema_in life_alone) begun.schema CreateTable slots_made.0 slots_made_plain makes new count h.0 in
    let left = slots_left old begun.schema new.now it.0 in
    record {
      schema = left.0;
      added = record {
        slots = left.1;
        life = left.2 ∙ begun.empty;
        sound = subst (λ k. IsDatabase (record { schema = k; trees = new.now.trees })) left.0 it.0.sound;
      };
    }

pub both_committed : (old new : State) → AreMade old → Shows old new old.now old.now false → AreBothAdded new
both_committed old new made shown = record {
  adds = subst (λ (d : Database). BothAdded d.trees) (sym shown.now_is) made.added;
  ours = record {
    is_open = shown.is_open;
    schema = schema_told _ _ [] none_beside (ap (λ (d : Database). d.schema) shown.now_is ∙ made.schema);
    autocommit = shown.mode;
    committed = shown.now_is ∙ sym shown.committed_is;
  };
}

-- what a stop may leave: what it left before, or what is committed
pub survives_both : (old a b c : State) (P : Trees → Type 0) → Survives old a (λ _. ⊥) → Survives a b (λ _. ⊥) → Survives b c (λ db. db ≡ b.now.trees)
    → (HasCleanDisk b → P b.now.trees) → Survives old c P
survives_both old a b c P first second last so =
    survives_then old b c (λ _. ⊥) (λ db. db ≡ b.now.trees) P (λ _ db none. absurd none)
    (λ clean db is. subst P (sym is) (so (omega (arith, last.clean))))
    (survives_then old a b (λ _. ⊥) (λ _. ⊥) (λ _. ⊥) (λ _ db none. none) (λ _ db none. none) first second) last
