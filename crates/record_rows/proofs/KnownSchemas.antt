-- Where `whose` and `known` stand.
use Rattle.std.proofs.Common.{◌≡◌, ◌<◌, inl, inr, length, ℕ, List, [], ◌∷◌, codes, Some, get_or, slice_get, arith, refl, sym, ap, ◌∙◌}
use Rattle.std.proofs.lemmas.Option.{slice_get_read, slice_get_within}
use Rattle.sqlite.specs.Schema.{Schema}
use Rattle.sqlite.specs.Table.{Table}
use Rattle.record_rows.specs.Beside.{AreBeside, Form, IsAmong, IsBeside, IsSchemaOf, forms, known, table_of, whose}
use Rattle.record_rows.specs.Tables.{Layout, life_first, schema_of, slots_first}
use Rattle.record_rows.proofs.BesideLemmas.{told_beside}
use Rattle.record_rows.specs.Known.{HasKnown, StandsAt, known_tree, whose_tree}
use Rattle.record_rows.proofs.KnownTexts.{with_known}

unlike : (a b : ℕ) (one other : List ℕ) → get_or one 0 0 ≡ a → get_or other 0 0 ≡ b → one ≡ other → (a ≡ b → ⊥) → ⊥
unlike a b one other first second same apart = apart (sym first ∙ ap (λ (xs : List ℕ). get_or xs 0 0) same ∙ second)

-- a table that may stand beside the two is of the form that its name says
is_whose : (table : Table) (tree : ℕ) → IsBeside table → table.name ≡ codes "whose" → table.tree ≡ tree → table ≡ table_of whose tree
is_whose table tree is named rooted = by is.form is.listed is.is
  where
    by : (form : Form) → IsAmong form forms → table ≡ table_of form table.tree → table ≡ table_of whose tree
    by form (inl e) so = so ∙ ap (λ (f : Form). table_of f table.tree) e ∙ ap (table_of whose) rooted
    by form (inr (inl e)) so = absurd (unlike 119 107 (codes "whose") (codes "known") refl refl (sym named ∙ ap (λ (t : Table). t.name) so ∙ ap (λ (f : Form). f.name) e) (λ e. omega (arith, e)))
    by form (inr (inr (inl e))) so = absurd (unlike 119 103 (codes "whose") (codes "gone") refl refl (sym named ∙ ap (λ (t : Table). t.name) so ∙ ap (λ (f : Form). f.name) e) (λ e. omega (arith, e)))
    by form (inr (inr (inr (inl e)))) so = absurd (unlike 119 101 (codes "whose") (codes "ended") refl refl (sym named ∙ ap (λ (t : Table). t.name) so ∙ ap (λ (f : Form). f.name) e) (λ e. omega (arith, e)))
    by form (inr (inr (inr (inr none)))) so = absurd none

is_known : (table : Table) (tree : ℕ) → IsBeside table → table.name ≡ codes "known" → table.tree ≡ tree → table ≡ table_of known tree
is_known table tree is named rooted = by is.form is.listed is.is
  where
    by : (form : Form) → IsAmong form forms → table ≡ table_of form table.tree → table ≡ table_of known tree
    by form (inl e) so = absurd (unlike 107 119 (codes "known") (codes "whose") refl refl (sym named ∙ ap (λ (t : Table). t.name) so ∙ ap (λ (f : Form). f.name) e) (λ e. omega (arith, e)))
    by form (inr (inl e)) so = so ∙ ap (λ (f : Form). table_of f table.tree) e ∙ ap (table_of known) rooted
    by form (inr (inr (inl e))) so = absurd (unlike 107 103 (codes "known") (codes "gone") refl refl (sym named ∙ ap (λ (t : Table). t.name) so ∙ ap (λ (f : Form). f.name) e) (λ e. omega (arith, e)))
    by form (inr (inr (inr (inl e)))) so = absurd (unlike 107 101 (codes "known") (codes "ended") refl refl (sym named ∙ ap (λ (t : Table). t.name) so ∙ ap (λ (f : Form). f.name) e) (λ e. omega (arith, e)))
    by form (inr (inr (inr (inr none)))) so = absurd none

-- the schema is that of the layout with the two behind its tables
pub record HasBoth (layout : Layout) (schema : Schema) : Type 0 where
  pub rest : List Table
  pub are : AreBeside (table_of whose whose_tree ∷ table_of known known_tree ∷ rest)
  pub is : schema ≡ with_known layout rest

-- behind the first two tables
third : (layout : Layout) (beside : List Table) → slice_get (schema_of layout beside).tables 2 ≡ slice_get beside 0
third life_first beside = refl
third slots_first beside = refl

fourth : (layout : Layout) (beside : List Table) → slice_get (schema_of layout beside).tables 3 ≡ slice_get beside 1
fourth life_first beside = refl
fourth slots_first beside = refl

both : (layout : Layout) (schema : Schema) (beside : List Table) → AreBeside beside → schema ≡ schema_of layout beside
    → StandsAt beside 0 (codes "whose") whose_tree → StandsAt beside 1 (codes "known") known_tree → HasBoth layout schema
both layout schema [] are is whose_there known_there = absurd (let e = whose_there.stands in cc)
both layout schema (one ∷ []) are is whose_there known_there = absurd (let e = known_there.stands in cc)
both layout schema (one ∷ other ∷ rest) are is whose_there known_there =
    let first : one ≡ whose_there.table = let e = whose_there.stands in cc in
    let second : other ≡ known_there.table = let e = known_there.stands in cc in
    let one_is : one ≡ table_of whose whose_tree =
    is_whose one whose_tree are.each.0 (ap (λ (t : Table). t.name) first ∙ whose_there.named) (ap (λ (t : Table). t.tree) first ∙ whose_there.rooted) in
    let other_is : other ≡ table_of known known_tree =
    is_known other known_tree are.each.1.0 (ap (λ (t : Table). t.name) second ∙ known_there.named) (ap (λ (t : Table). t.tree) second ∙ known_there.rooted) in
    record {
      rest = rest;
      are = rw (← one_is, ← other_is) are;
      is = rw (← one_is, ← other_is) is;
    }

pub has_both : (layout : Layout) (schema : Schema) → IsSchemaOf layout schema → HasKnown schema.tables → HasBoth layout schema
has_both layout schema is has =
    let told = told_beside layout schema is in
    let at = λ (place : ℕ). ap (λ (s : Schema). slice_get s.tables place) told.2 in
    both layout schema told.0 told.1 told.2
    (record {
      table = has.whose.table;
      stands = sym (third layout told.0) ∙ sym (at 2) ∙ has.whose.stands;
      named = has.whose.named;
      rooted = has.whose.rooted;
    })
    (record {
      table = has.known.table;
      stands = sym (fourth layout told.0) ∙ sym (at 3) ∙ has.known.stands;
      named = has.known.named;
      rooted = has.known.rooted;
    })

-- ---- looking for them

pub found_at : (tables : List Table) (at : ℕ) (name : List ℕ) (tree : ℕ) (table : Table) → at < length tables → table ≡ get_or tables at table
    → (table.name ≡ name) × (table.tree ≡ tree) → StandsAt tables at name tree
found_at tables at name tree table low is of = record {
  table = table;
  stands = slice_get_read tables (length tables) at table refl low is;
  named = of.0;
  rooted = of.1;
}

pub is_of : (tables : List Table) (at : ℕ) (name : List ℕ) (tree : ℕ) (table : Table) → at < length tables → table ≡ get_or tables at table
    → StandsAt tables at name tree → (table.name ≡ name) × (table.tree ≡ tree)
is_of tables at name tree table low is there =
    let both : Some there.table ≡ Some table = sym there.stands ∙ slice_get_read tables (length tables) at table refl low is in
    let same : there.table ≡ table = cc in
    (sym (ap (λ (t : Table). t.name) same) ∙ there.named, sym (ap (λ (t : Table). t.tree) same) ∙ there.rooted)

pub within : (tables : List Table) (at : ℕ) (name : List ℕ) (tree : ℕ) → StandsAt tables at name tree → at < length tables
within tables at name tree there = slice_get_within tables at there.table there.stands
