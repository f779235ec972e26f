-- What stands beside the two tables stays as it is.
use Rattle.std.proofs.Common.{◌≡◌, ◌≢◌, inl, inr, ℕ, ◌+◌, ◌<◌, ◌≤◌, ◌↔◌, ◌++◌, Bool, IsTrue, IfOk, Result, Ok, Err, List, [], ◌∷◌, map, take, length, get_or, Option, refl, sym, ap, subst, ◌∙◌, arith}
use Rattle.std.specs.Prelude.{filter_map, flat_map}
use Rattle.std.specs.List.{AllByRecursion}
use Rattle.std.proofs.lemmas.List.{take_more, take_all, map-append}
use Rattle.sqlite_trees.proofs.ListLemmas.{all-append}
use Rattle.sqlite.specs.Order.{Row}
use Rattle.sqlite.specs.Schema.{Schema}
use Rattle.sqlite.specs.Table.{Table}
use Rattle.sqlite.specs.Tree.{Trees}
use Rattle.sqlite.specs.Change.{KeepsRows}
use Rattle.sqlite_schema.specs.declared.schema.Keys.TheVariants.{Enforced}
use Rattle.sqlite_schema.specs.declared.schema.Reference.{Reference}
use Rattle.sqlite_rules.specs.Action.{Work, works, work_for}
use Rattle.record_rows.specs.Found.{HasFirstKey, IsPlainTable}
use Rattle.record_rows.specs.Beside.{Form, table_of, IsAmong, IsBeside, AreBeside, IsSchemaOf, beside_in, forms, whose, known, gone, ended}
use Rattle.record_rows.specs.Tables.{Layout, life_first, slots_first, schema_of}

-- no row of a table beside refers to another, so no action follows what is done to the two
no_works : (f : Table → Reference → Option Work) (beside : List Table) → AllByRecursion IsBeside beside
    → flat_map (λ child. filter_map (f child) child.references) beside ≡ []
no_works f [] all = refl
no_works f (table ∷ beside) all =
    let none : table.references ≡ [] = ap (λ (t : Table). t.references) all.0.is in
    rw (none, no_works f beside all.1)

pub no_actions : (layout : Layout) (beside : List Table) → AreBeside beside → (tree : ℕ) (olds news : List Row)
    → works (schema_of layout beside) Enforced 0 tree olds news ≡ []
no_actions life_first beside are tree olds news = no_works (work_for (schema_of life_first beside) Enforced 0 tree olds news) beside are.each
no_actions slots_first beside are tree olds news = no_works (work_for (schema_of slots_first beside) Enforced 0 tree olds news) beside are.each

-- a write to one of the two leaves the rows beside
pub left_beside : (tree : ℕ) → tree < 3 → (old db : Trees) (beside : List Table) → AllByRecursion IsBeside beside
    → AllByRecursion (λ t. t.tree ≢ tree → db t.tree ≡ old t.tree) beside → KeepsRows beside old db
left_beside tree low old db [] are all = tt
left_beside tree low old db (table ∷ beside) are all =
    (all.0 (λ e. omega (arith, low, are.0.apart, e)), left_beside tree low old db beside are.1 all.1)

pub none_beside : AreBeside []
none_beside = record { each = tt; few = omega arith }

-- ---- what a schema has beside the two

pub told_beside : (layout : Layout) (schema : Schema) → IsSchemaOf layout schema → (beside : List Table) × AreBeside beside × (schema ≡ schema_of layout beside)
unfolding IsSchemaOf
told_beside layout schema is = is

pub schema_told : (layout : Layout) (schema : Schema) (beside : List Table) → AreBeside beside → schema ≡ schema_of layout beside → IsSchemaOf layout schema
unfolding IsSchemaOf
schema_told layout schema beside are is = (beside, are, is)

behind : (layout : Layout) (beside : List Table) → beside_in (schema_of layout beside) ≡ beside
behind life_first beside = refl
behind slots_first beside = refl

pub same_behind : (layout : Layout) (schema : Schema) (one other : List Table) → schema ≡ schema_of layout one → schema ≡ schema_of layout other → one ≡ other
same_behind layout schema one other is also = sym (behind layout one) ∙ ap beside_in (sym is ∙ also) ∙ behind layout other

pub keeps_behind : (layout : Layout) (schema : Schema) (beside : List Table) → schema ≡ schema_of layout beside → (old db : Trees)
    → KeepsRows beside old db → KeepsRows (beside_in schema) old db
keeps_behind layout schema beside is old db keeps =
    subst (λ tables. KeepsRows tables old db) (sym (ap beside_in is ∙ behind layout beside)) keeps

-- ---- when a table is one that may stand beside

pub form_is : (table : Table) (form : Form) → IsPlainTable table → table.name ≡ form.name → table.columns ≡ form.columns → HasFirstKey table
    → table.checks ≡ form.checks → table ≡ table_of form table.tree
form_is table form bare named columns keys checks = λ i. record {
  name = named i;
  tree = table.tree;
  columns = columns i;
  key = keys.key i;
  primary = keys.primary i;
  uniques = keys.uniques i;
  orders = keys.orders i;
  checks = checks i;
  references = bare.references i;
  computed = bare.computed i;
  stamps = bare.stamps i;
  is_counted = bare.counted i;
}

pub beside_is : (table : Table) (form : Form) → IsAmong form forms → 3 ≤ table.tree → table ≡ table_of form table.tree → IsBeside table
beside_is table form listed apart is = record { form = form; listed = listed; is = is; apart = apart }

pub all_more : {X : Type 0} (P : X → Type 0) (xs : List X) (at : ℕ) (x : X) → at < length xs → x ≡ get_or xs at x → AllByRecursion P (take at xs)
    → P x → AllByRecursion P (take (at + 1) xs)
all_more P xs at x low is all one = rw (take_more xs at x low) (all-append P (take at xs) (get_or xs at x ∷ []) all (subst P is one, tt))

pub all_of : {X : Type 0} (P : X → Type 0) (xs : List X) (at : ℕ) → length xs ≤ at → AllByRecursion P (take at xs) → AllByRecursion P xs
all_of P xs at whole all = subst (AllByRecursion P) (take_all at xs whole) all

-- columns that are each as they have to be, up to a place
pub same_more : {A B : Type 0} (f : B → A) (xs : List A) (ys : List B) (at : ℕ) (x : A) (y : B) → at < length xs → at < length ys
    → x ≡ get_or xs at x → y ≡ get_or ys at y → take at xs ≡ map f (take at ys) → x ≡ f y → take (at + 1) xs ≡ map f (take (at + 1) ys)
same_more f xs ys at x y low high is of same one =
    take_more xs at x low ∙ ap (λ z. take at xs ++ z ∷ []) (sym is ∙ one ∙ ap f of) ∙ ap (λ zs. zs ++ f (get_or ys at y) ∷ []) same
    ∙ sym (map-append f (take at ys) (get_or ys at y ∷ [])) ∙ ap (map f) (sym (take_more ys at y high))

pub same_all : {A B : Type 0} (f : B → A) (xs : List A) (ys : List B) → length xs ≡ length ys → take (length xs) xs ≡ map f (take (length xs) ys)
    → xs ≡ map f ys
same_all f xs ys long same =
    sym (take_all (length xs) xs (omega arith)) ∙ same ∙ ap (map f) (take_all (length xs) ys (omega (arith, long)))

-- a table that may stand beside is one of the last form, if it is none of the others
pub last_form : (table : Table) → (table ≡ table_of whose table.tree → ⊥) → (table ≡ table_of known table.tree → ⊥)
    → (table ≡ table_of gone table.tree → ⊥) → IsBeside table → table ≡ table_of ended table.tree
last_form table one two three is = by is.form is.listed is.is
  where
    by : (form : Form) → IsAmong form forms → table ≡ table_of form table.tree → table ≡ table_of ended table.tree
    by form (inl e) so = absurd (one (subst (λ f. table ≡ table_of f table.tree) e so))
    by form (inr (inl e)) so = absurd (two (subst (λ f. table ≡ table_of f table.tree) e so))
    by form (inr (inr (inl e))) so = absurd (three (subst (λ f. table ≡ table_of f table.tree) e so))
    by form (inr (inr (inr (inl e)))) so = subst (λ f. table ≡ table_of f table.tree) e so
    by form (inr (inr (inr (inr none)))) so = absurd none

pub if_beside : {E : Type 0} (r : Result Bool E) (table : Table) → 3 ≤ table.tree → (table ≡ table_of whose table.tree → ⊥)
    → (table ≡ table_of known table.tree → ⊥) → (table ≡ table_of gone table.tree → ⊥)
    → IfOk r (λ same. IsTrue same ↔ (table ≡ table_of ended table.tree)) → IfOk r (λ same. IsTrue same ↔ IsBeside table)
if_beside (Ok same) table apart one two three h = (
  λ is. beside_is table ended (inr (inr (inr (inl refl)))) apart (h.0 is),
  λ is. h.1 (last_form table one two three is),
)
if_beside (Err e) table apart one two three h = tt
