-- What a query on one table answers.
use Rattle.std.proofs.Common.{◌≡◌, pos, negsuc, ℕ, Bool, true, false, cond, List, [], ◌∷◌, ◌++◌, map, None, refl, ap, subst}
use Rattle.std.proofs.Common.{◌∙◌, arith}
use Rattle.std.specs.Prelude.{filter, flat_map, drop}
use Rattle.std.specs.List.{list_all, AllByRecursion}
use Rattle.std.specs.List.Sorted.{IsPermutation, IsSorted}
use Rattle.std.proofs.lemmas.List.Sorted.{IsPermutation-sym, Contains-permutation}
use Rattle.sqlite_trees.proofs.ListLemmas.{map-map}
use Rattle.sqlite_rules.proofs.ListLemmas.{all_has, all_from, has_contained, contains_had}
use Rattle.sqlite_exec.proofs.RunLemmas.{answer_alone}
use Rattle.sqlite.specs.declared.types.Value.TheVariants.{Null, Int}
use Rattle.sqlite.specs.Order.{Row}
use Rattle.sqlite.specs.Tree.{Trees}
use Rattle.sqlite.specs.Term.{Term, lit, holds}
use Rattle.sqlite.specs.Query.{Query, inner, end, IsAnswer, IsSureAnswer, Output, output, output_cmp}
use Rattle.sqlite.specs.Program.{overlay}
use Rattle.sqlite_value.specs.declared.keys.Key.{Key}

-- a query on one table, with no grouping and no limit
abbrev pub on_table : ℕ → List Term → List Term → List (Term × Key) → Query
on_table tree terms project order = record {
  from = inner tree end;
  filter = terms;
  group = None;
  project = project;
  distinct = false;
  collations = [];
  order = order;
  limit = lit (Int (negsuc 0));
  offset = lit (Int (pos 0));
}

drop_none : {X : Type 0} (xs : List X) → drop 0 xs ≡ xs
drop_none xs = grind arith

by_test : {A B : Type 0} (f : A → B) (x : A) (kept : List A) (rest : List B) (b : Bool) → rest ≡ map f kept
    → cond b (f x ∷ []) [] ++ rest ≡ map f (cond b (x ∷ kept) kept)
by_test f x kept rest true is = ap (λ r. f x ∷ r) is
by_test f x kept rest false is = is

-- the rows that pass, each made into one
passed : {A B : Type 0} (f : A → B) (q p : A → Bool) → ((x : A) → q x ≡ p x) → (xs : List A)
    → flat_map (λ x. cond (q x) (f x ∷ []) []) xs ≡ map f (filter p xs)
passed f q p same [] = refl
passed f q p same (x ∷ xs) = rw (same x) (by_test f x (filter p xs) _ (p x) (passed f q p same xs))

pub all-permuted : {X : Type 0} (P : X → Type 0) (xs ys : List X) → IsPermutation xs ys → AllByRecursion P xs → AllByRecursion P ys
all-permuted P xs ys same all = all_from P ys (λ y has. all_has P xs y all (has_contained xs y (Contains-permutation ys xs y
    (IsPermutation-sym xs ys same) (contains_had ys y has))))

-- the rows are those of the table that pass the test, each as it is shown, in an order that ORDER BY allows
pub record IsShown (q : Query) (params : Row) (found : List Row) (rows : List Row) : Type 0 where
  pub ordered : List Output
  pub same : IsPermutation (map (λ r. output q (params ∷ r ∷ [])) found) ordered
  pub sorted : IsSorted (output_cmp q) ordered
  pub are : rows ≡ map (λ o. o.1) ordered

pub shows : (tree : ℕ) (terms project : List Term) (order : List (Term × Key)) (db : Trees) (params : Row) (rows : List Row) (p : Row → Bool)
    → ((r : Row) → list_all (holds (params ∷ r ∷ [])) terms ≡ p r) → IsSureAnswer (on_table tree terms project order) (overlay db []) params rows
    → IsShown (on_table tree terms project order) params (filter p (db tree)) rows
shows tree terms project order db params rows p tests answer =
    let q = on_table tree terms project order in
    let a : IsAnswer q db params rows = answer_alone q db params rows answer Null in
    let staged : a.staged ≡ map (λ r. params ∷ r ∷ []) (filter p (db tree)) = a.grouped
    ∙ passed (λ r. params ∷ r ∷ []) (λ r. list_all (holds (params ∷ r ∷ [])) terms) p tests (db tree) in
    let kept : a.kept ≡ map (λ r. output q (params ∷ r ∷ [])) (filter p (db tree)) = a.distinct ∙ ap (map (output q)) staged
    ∙ map-map (output q) (λ r. params ∷ r ∷ []) (filter p (db tree)) in
    record {
      ordered = a.ordered;
      same = subst (λ k. IsPermutation k a.ordered) kept a.same;
      sorted = a.sorted;
      are = a.shown ∙ drop_none (map (λ (o : Output). o.1) a.ordered);
    }
