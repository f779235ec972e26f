-- What making the tables that a database lacks leaves.
use Rattle.std.proofs.Common.{◌≡◌, ℕ, ◌==◌, cond, List, [], ◌∷◌, None, refl, sym, ap, subst, ◌∙◌}
use Rattle.mc_model.specs.synod.Acceptor.{Records}
use Rattle.sqlite.specs.Tree.{Trees}
use Rattle.sqlite.specs.Schema.{Schema}
use Rattle.sqlite.specs.Table.{Table}
use Rattle.sqlite.specs.State.{State}
use Rattle.sqlite_schema.specs.declared.schema.Index.{Index}
use Rattle.record_rows.specs.Added.{AddsBoth, AddsSlots, BothAdded, SlotsAdded}
use Rattle.record_rows.specs.Content.{AreSlots, no_slots}
use Rattle.record_rows.specs.Tables.{Layout, Present, life_first, slots_first, neither, life_alone, slots_alone, both, schema_in, slots_tree}
use Rattle.stable_store.specs.Stored.{AreSame}
use Rattle.sql_records.specs.Standing.{StandFor}
use Rattle.sql_records.specs.Stores.{HasRecords}
use Rattle.sql_store.specs.Adopted.{Adds, Completes, layout_in, no_records}

-- ---- a schema has one set of the tables

abbrev first_tree : List Index → ℕ
first_tree [] = 0
first_tree (index ∷ more) = index.tree

-- by the tree of the first index two tables stand in the one order or in the other
abbrev ordered : List Index → Layout
ordered indexes = cond (first_tree indexes == 2) life_first slots_first

abbrev alone : List Index → Present
alone [] = life_alone
alone (index ∷ more) = slots_alone

abbrev decoded : List Table → List Index → Present
decoded [] indexes = neither
decoded (table ∷ []) indexes = alone indexes
decoded (first ∷ second ∷ beside) indexes = both (ordered indexes) beside

abbrev present_in : Schema → Present
present_in s = decoded s.tables s.indexes

present_by : (present : Present) → present_in (schema_in present) ≡ present
present_by neither = refl
present_by life_alone = refl
present_by slots_alone = refl
present_by (both life_first beside) = refl
present_by (both slots_first beside) = refl

pub present_is : (one other : Present) → schema_in one ≡ schema_in other → one ≡ other
present_is one other same = sym (present_by one) ∙ ap present_in same ∙ present_by other

pub adds_at : (present : Present) (old : State) (db : Trees) → old.now.schema ≡ schema_in present → Completes present old.now.trees db → Adds old db
adds_at present old db is completes other also =
    subst (λ p. Completes p old.now.trees db) (present_is present other (sym is ∙ also)) completes

-- ---- a table that is made is empty

nothing_stands : (records : Records) → AreSame records no_records → StandFor no_slots records
nothing_stands records same = record { rows = λ key body found. absurd (cc); blanks = λ slot none. same.each slot }

nothing_found : (layout : Layout) (db : Trees) (records : Records) → db (slots_tree layout) ≡ [] → AreSame records no_records
    → HasRecords layout db records
nothing_found layout db records empty same = record {
  slots = no_slots;
  are = subst (λ rows. AreSlots rows no_slots) (sym empty) (record { typed = tt; exact = λ slot. refl });
  stand = nothing_stands records same;
}

completes_neither : (old : State) (db : Trees) → BothAdded db → Completes neither old.now.trees db
completes_neither old db added = record {
  records = λ records same. nothing_found life_first db records added.slots same;
  started = λ started is. record { last = None; are = added.life; is = is };
}

completes_life : (old : State) (db : Trees) → SlotsAdded old db → Completes life_alone old.now.trees db
completes_life old db added = record {
  records = λ records same. nothing_found life_first db records added.empty same;
  started = λ started is. record { last = is.last; are = rw added.life is.are; is = is.is };
}

-- ---- what it adds

pub adds_neither : (old : State) → old.now.schema ≡ schema_in neither → (db : Trees) → AddsBoth old db → Adds old db
adds_neither old is db adds = adds_at neither old db is (completes_neither old db (adds is))

pub adds_life : (old : State) → old.now.schema ≡ schema_in life_alone → (db : Trees) → AddsSlots old db → Adds old db
adds_life old is db adds = adds_at life_alone old db is (completes_life old db (adds is))

pub laid_at : (present : Present) (old : State) → old.now.schema ≡ schema_in present → (other : Present) → old.now.schema ≡ schema_in other
    → layout_in present ≡ layout_in other
laid_at present old is other also = ap layout_in (present_is present other (sym is ∙ also))
