-- The accounts, routes and nodes of rows, row by row.
use Rattle.std.proofs.Common.{◌≡◌, ◌⊎◌, ℕ, zero, suc, ◌+◌, ◌-◌, ◌<◌, ◌≤◌, Bool, true, false, not, ◌||◌, ◌==◌, cond, List, [], ◌∷◌, ◌++◌}
use Rattle.std.proofs.Common.{length, map, take, drop, get_or, slice_get, Option, Some, None, IsTrue, IsSome, IfSome, option_map, codes}
use Rattle.std.proofs.Common.{refl, sym, ap, subst, ◌∙◌, inl, inr, arith}
use Rattle.std.specs.List.{AllByRecursion, find, list_any}
use Rattle.std.specs.Str.{bytes_eq}
use Rattle.std.proofs.lemmas.Bool.{cases_Bool, cases_lt, cond-false, cond-true, eqb-true, or_cases, or_left, or_right, true≢false, false≢true}
use Rattle.std.proofs.lemmas.Option.{slice_get_past}
use Rattle.std.proofs.lemmas.List.{length-append, drop_more, map-append, take-append-drop}
use Rattle.std.proofs.lemmas.List.Folds.{list_any-append}
use Rattle.accounts.specs.declared.account.Account.{Account}
use Rattle.accounts.specs.declared.route.Route.{Route}
use Rattle.accounts.specs.Accounts.{account_of}
use Rattle.accounts.specs.Routes.{has_route}
use Rattle.toml.specs.Data.{Data}
use Rattle.toml.specs.declared.value.Value.{Value}
use Rattle.toml.specs.View.{view}
use Rattle.config.proofs.Lists.{find_of_map}
use Rattle.config.specs.Rows.{has_twice, number_in, same_number, same_text, same_value, text_in}
use Rattle.config.specs.Config.{IsNode, IsNodeAt, AreNodes, account_at, numbered, or_empty, route_at, text_at}
use Rattle.config.specs.declared.config.NodeConfig.{NodeConfig}
use Rattle.config.specs.Faults.{is_numbered}
use Rattle.config.specs.Building.{AreNumbered, IsAccountRow, IsRouteRow}

-- ---- one more row

-- the rows, parted at one
parted : {A B : Type 0} (g : A → B) (xs : List A) (place : ℕ) (x : A) → place < length xs → x ≡ get_or xs place x →
    map g xs ≡ map g (take place xs) ++ g x ∷ map g (drop (place + 1) xs)
parted {A} g xs place x below is =
    ap (map g) (sym (take-append-drop place xs) ∙ ap (λ (ys : List A). take place xs ++ ys)
    (drop_more xs place x below ∙ ap (λ (y : A). y ∷ drop (place + 1) xs) (sym is)))
    ∙ map-append g (take place xs) (x ∷ drop (place + 1) xs)

-- ---- one text twice

twice_apart : (name : List ℕ) (front back : List Data) (row : Data) → list_any (λ other. same_value name other row) front ≡ true →
    has_twice name (front ++ row ∷ back) ≡ true
twice_apart name [] back row any = absurd (false≢true any)
twice_apart name (first ∷ front) back row any = elim (or_cases (same_value name first row) (list_any (λ other. same_value name other row) front) any) [
  | inl here ↦ or_left _ _ (list_any-append (same_value name first) front (row ∷ back) ∙ or_right _ _ (or_left _ _ here))
  | inr later ↦ or_right _ _ (twice_apart name front back row later)
]

same_texts : (one other : Option (List ℕ)) → IsSome one → IsSome other → bytes_eq (or_empty one) (or_empty other) ≡ true → same_text one other ≡ true
same_texts None other here there same = absurd (false≢true here)
same_texts (Some text) None here there same = absurd (false≢true there)
same_texts (Some text) (Some other) here there same = same

account_before : (front : List Data) (row : Data) → AllByRecursion IsAccountRow front → IsSome (text_in (codes "system_id") row)
    → IsSome (account_of (map account_at front) (text_at (codes "system_id") row)) → list_any (λ other. same_value (codes "system_id") other row) front ≡ true
account_before [] row are given found = absurd (false≢true found)
account_before (first ∷ front) row are given found = elim (cases_Bool (bytes_eq (text_at (codes "system_id") first) (text_at (codes "system_id") row))) [
  | inl same ↦ or_left _ _ (or_left _ _ (same_texts (text_in (codes "system_id") first) (text_in (codes "system_id") row) are.0.named given same))
  | inr differs ↦ or_right _ _ (account_before front row are.1 given
      (subst (λ (b : Bool). IsSome (cond b (Some (account_at first)) (account_of (map account_at front) (text_at (codes "system_id") row)))) differs found))
]

route_before : (front : List Data) (row : Data) → AllByRecursion IsRouteRow front → IsSome (text_in (codes "prefix") row)
    → has_route (map route_at front) (text_at (codes "prefix") row) ≡ true → list_any (λ other. same_value (codes "prefix") other row) front ≡ true
route_before [] row are given found = absurd (false≢true found)
route_before (first ∷ front) row are given found =
    elim (or_cases (bytes_eq (text_at (codes "prefix") first) (text_at (codes "prefix") row)) (has_route (map route_at front) (text_at (codes "prefix") row)) found) [
      | inl same ↦ or_left _ _ (or_left _ _ (same_texts (text_in (codes "prefix") first) (text_in (codes "prefix") row) are.0.given given same))
      | inr later ↦ or_right _ _ (route_before front row are.1 given later)
    ]

all_front : {A B : Type 0} (P : B → Type 0) (g : A → B) (place : ℕ) (xs : List A) → AllByRecursion (λ x. P (g x)) xs → AllByRecursion P (map g (take place xs))
all_front P g zero xs all = tt
all_front P g (suc place) [] all = tt
all_front P g (suc place) (x ∷ xs) all = (all.0, all_front P g place xs all.1)

pub no_account_twice : (rows : List Value) (place : ℕ) (row : Value) (accounts : List Account) → place < length rows →
    row ≡ get_or rows place row →
    AllByRecursion (λ row. IsAccountRow (view row)) rows
    → IsAccountRow (view row) → has_twice (codes "system_id") (map view rows) ≡ false → accounts ≡ map account_at (map view (take place rows))
    → IsSome (account_of accounts (text_at (codes "system_id") (view row))) → ⊥
no_account_twice rows place row accounts below is are here once so_far found =
    let before = account_before (map view (take place rows)) (view row) (all_front IsAccountRow view place rows are) here.named
    (subst (λ (others : List Account). IsSome (account_of others (text_at (codes "system_id") (view row)))) so_far found) in
    let twice = twice_apart (codes "system_id") (map view (take place rows)) (map view (drop (place + 1) rows)) (view row) before in
    true≢false (sym twice ∙ ap (λ (ds : List Data). has_twice (codes "system_id") ds) (sym (parted view rows place row below is)) ∙ once)

pub no_route_twice : (rows : List Value) (place : ℕ) (row : Value) (routes : List Route) → place < length rows →
    row ≡ get_or rows place row →
    AllByRecursion (λ row. IsRouteRow (view row)) rows
    → IsRouteRow (view row) → has_twice (codes "prefix") (map view rows) ≡ false → routes ≡ map route_at (map view (take place rows))
    → has_route routes (text_at (codes "prefix") (view row)) ≡ true → ⊥
no_route_twice rows place row routes below is are here once so_far found =
    let before = route_before (map view (take place rows)) (view row) (all_front IsRouteRow view place rows are) here.given
    (subst (λ (rs : List Route). has_route rs (text_at (codes "prefix") (view row)) ≡ true) so_far found) in
    let twice = twice_apart (codes "prefix") (map view (take place rows)) (map view (drop (place + 1) rows)) (view row) before in
    true≢false (sym twice ∙ ap (λ (ds : List Data). has_twice (codes "prefix") ds) (sym (parted view rows place row below is)) ∙ once)

-- ---- the nodes, number by number

found_in : (rows : List Data) (number : ℕ) (row : Data) → numbered rows number ≡ Some row → list_any (is_numbered number) rows ≡ true
found_in [] number row found = absurd (cc)
found_in (first ∷ rows) number row found = elim (cases_Bool (is_numbered number first)) [
  | inl here ↦ or_left _ _ here
  | inr not ↦ or_right _ _ (found_in rows number row (sym (cond-false (is_numbered number first) (Some first) (numbered rows number) not) ∙ found))
]

in_found : (rows : List Data) (number : ℕ) → list_any (is_numbered number) rows ≡ true → numbered rows number ≡ None → ⊥
in_found [] number any none = false≢true any
in_found (first ∷ rows) number any none = elim (cases_Bool (is_numbered number first)) [
  | inl here ↦ let some = cond-true (is_numbered number first) (Some first) (numbered rows number) here in absurd (cc)
  | inr not ↦ elim (or_cases (is_numbered number first) (list_any (is_numbered number) rows) any) [
    | inl here ↦ absurd (true≢false (sym here ∙ not))
    | inr later ↦ in_found rows number later (sym (cond-false (is_numbered number first) (Some first) (numbered rows number) not) ∙ none)
  ]
]

abbrev Follows : List Data → ℕ → Type 0
Follows all number = (1 ≤ number) × (number ≤ 9) × IsTrue ((number == 1) || list_any (is_numbered (number - 1)) all)

-- the number of a row
number_here : (all : List Data) (n : Option ℕ) (number : ℕ) → IfSome n (Follows all) → same_number n (Some number) ≡ true → Follows all number
number_here all None number is same = absurd (false≢true same)
number_here all (Some m) number is same = subst (Follows all) (eqb-true m number same) is

number_follows : (all rows : List Data) (number : ℕ) → AllByRecursion (λ row. IfSome (number_in (codes "number") row) (Follows all)) rows →
    list_any (is_numbered number) rows ≡ true →
    Follows all number
number_follows all [] number are any = absurd (false≢true any)
number_follows all (row ∷ rows) number are any = elim (or_cases (is_numbered number row) (list_any (is_numbered number) rows) any) [
  | inl here ↦ number_here all (number_in (codes "number") row) number are.0 here
  | inr later ↦ number_follows all rows number are.1 later
]

one_before : (all : List Data) (number : ℕ) → Follows all (suc number) → 1 ≤ number → list_any (is_numbered number) all ≡ true
one_before all number is above = elim (or_cases (suc number == 1) (list_any (is_numbered (suc number - 1)) all) is.2) [
  | inl one ↦ let first = eqb-true (suc number) 1 one in absurd (omega arith)
  | inr before ↦ let same : suc number - 1 ≡ number = omega arith in subst (λ (n : ℕ). list_any (is_numbered n) all ≡ true) same before
]

-- where there is no number, there is none behind it
next_none : (rows : List Data) (number : ℕ) → AreNumbered rows → 1 ≤ number → numbered rows number ≡ None → (found : Option Data) →
    numbered rows (suc number) ≡ found →
    found ≡ None
next_none rows number are above none None is = refl
next_none rows number are above none (Some row) is =
    absurd (in_found rows number (one_before rows number (number_follows rows rows (suc number) are (found_in rows (suc number) row is)) above) none)

none_behind : (rows : List Data) (number more : ℕ) → AreNumbered rows → 1 ≤ number → numbered rows number ≡ None → numbered rows (more + number) ≡ None
none_behind rows number zero are above none = let same : 0 + number ≡ number = omega arith in ap (λ (n : ℕ). numbered rows n) same ∙ none
none_behind rows number (suc more) are above none =
    let same : suc more + number ≡ suc (more + number) = omega arith in
    let within : 1 ≤ more + number = omega arith in
    ap (λ (n : ℕ). numbered rows n) same
    ∙ next_none rows (more + number) are within (none_behind rows number more are above none) (numbered rows (suc (more + number))) refl

none_above : (rows : List Data) (number : ℕ) (found : Option Data) → AreNumbered rows → 9 < number → numbered rows number ≡ found → found ≡ None
none_above rows number None are above is = refl
none_above rows number (Some row) are above is =
    let within = number_follows rows rows number are (found_in rows number row is) in absurd (omega (arith, within.1))

-- the nodes of the numbers up to a place
abbrev pub AreNodesBelow : List Data → ℕ → List NodeConfig → Type 0
AreNodesBelow rows count nodes = (place : ℕ) → place < count → IsNodeAt (numbered rows (suc place)) (slice_get nodes place)

slice_get-front : {A : Type 0} (xs ys : List A) (place : ℕ) → place < length xs → slice_get (xs ++ ys) place ≡ slice_get xs place
slice_get-front [] ys place below = absurd (omega arith)
slice_get-front (x ∷ xs) ys zero below = refl
slice_get-front (x ∷ xs) ys (suc place) below = slice_get-front xs ys place (omega arith)

slice_get-last : {A : Type 0} (xs : List A) (last : A) → slice_get (xs ++ last ∷ []) (length xs) ≡ Some last
slice_get-last [] last = refl
slice_get-last (x ∷ xs) last = slice_get-last xs last

node_last : (rows : List Data) (nodes : List NodeConfig) (node : NodeConfig) (row : Data) (place : ℕ) →
    AreNodesBelow rows (length nodes) nodes → numbered rows (suc (length nodes)) ≡ Some row →
    IsNode row node
    → (place < length nodes) ⊎ (place ≡ length nodes) → IsNodeAt (numbered rows (suc place)) (slice_get (nodes ++ node ∷ []) place)
node_last rows nodes node row place so_far found is (inl before) = rw (slice_get-front nodes (node ∷ []) place before) (so_far place before)
node_last rows nodes node row place so_far found is (inr same) =
    subst (λ (p : ℕ). IsNodeAt (numbered rows (suc p)) (slice_get (nodes ++ node ∷ []) p)) (sym same) (rw (found, slice_get-last nodes node) is)

-- so far, number by number
pub record IsBegun (rows : List Value) (count : ℕ) (nodes : List NodeConfig) : Type 0 where
  pub long : length nodes ≡ count
  pub nodes_are : AreNodesBelow (map view rows) count nodes

seen : (rows : List Value) (number : ℕ) (found : Option Value) → found ≡ find (λ row. is_numbered number (view row)) rows →
    numbered (map view rows) number ≡ option_map view found
seen rows number found is = sym (find_of_map (is_numbered number) view rows) ∙ ap (λ (o : Option Value). option_map view o) (sym is)

pub begun_more : (rows : List Value) (count : ℕ) (nodes after : List NodeConfig) (row : Value) (node : NodeConfig) → IsBegun rows count nodes
    → Some row ≡ find (λ row. is_numbered (count + 1) (view row)) rows → IsNode (view row) node → after ≡ nodes ++ node ∷ [] → IsBegun rows (count + 1) after
begun_more rows count nodes after row node begun found is after_is =
    let long : length after ≡ count + 1 = ap (λ (ns : List NodeConfig). length ns) after_is ∙ grind (arith, length-append {A = NodeConfig}, begun.long) in
    let here : numbered (map view rows) (suc (length nodes)) ≡ Some (view row) =
    ap (λ (n : ℕ). numbered (map view rows) n) (omega (arith, begun.long)) ∙ seen rows (count + 1) (Some row) found in
    let so_far : AreNodesBelow (map view rows) (length nodes) nodes = subst (λ (n : ℕ). AreNodesBelow (map view rows) n nodes)
    (sym begun.long) begun.nodes_are in
    record {
      long = long;
      nodes_are = λ place below. subst (λ (ns : List NodeConfig). IsNodeAt (numbered (map view rows) (suc place)) (slice_get ns place)) (sym after_is)
          (node_last (map view rows) nodes node (view row) place so_far here is (elim (cases_lt place (length nodes)) [
            | inl before ↦ inl before
            | inr above ↦ inr (omega (arith, begun.long))
          ]));
    }

are_nodes : (rows : List Data) (nodes : List NodeConfig) (count : ℕ) → length nodes ≡ count → AreNodesBelow rows count nodes →
    ((place : ℕ) → count ≤ place → numbered rows (suc place) ≡ None) →
    AreNodes rows nodes
are_nodes rows nodes count long below above = λ place. elim (cases_lt place count) [
  | inl before ↦ below place before
  | inr behind ↦ rw (above place behind, slice_get_past nodes place (omega arith)) tt
]

pub nodes_stop : (rows : List Value) (count : ℕ) (nodes : List NodeConfig) → AreNumbered (map view rows) → IsBegun rows count nodes
    → None ≡ find (λ row. is_numbered (count + 1) (view row)) rows → AreNodes (map view rows) nodes
nodes_stop rows count nodes are begun none =
    let here : numbered (map view rows) (count + 1) ≡ None = seen rows (count + 1) None none in
    are_nodes (map view rows) nodes count begun.long begun.nodes_are (λ place above.
    ap (λ (n : ℕ). numbered (map view rows) n) (omega arith) ∙ none_behind (map view rows) (count + 1) (place - count) are (omega arith) here)

pub nodes_end : (rows : List Value) (nodes : List NodeConfig) → AreNumbered (map view rows) → IsBegun rows 9 nodes → AreNodes (map view rows) nodes
nodes_end rows nodes are begun =
    are_nodes (map view rows) nodes 9 begun.long begun.nodes_are
    (λ place above. none_above (map view rows) (suc place) (numbered (map view rows) (suc place)) are (omega arith) refl)

pub all_found : {A : Type 0} (P : A → Type 0) (p : A → Bool) (xs : List A) (x : A) → AllByRecursion P xs → Some x ≡ find p xs → P x
all_found P p [] x all found = absurd (cc)
all_found {A} P p (y ∷ ys) x all found = elim (cases_Bool (p y)) [
  | inl here ↦ let same : y ≡ x = let first = cond-true (p y) (Some y) (find p ys) here in cc in subst P same all.0
  | inr not ↦ all_found P p ys x all.1 (found ∙ cond-false (p y) (Some y) (find p ys) not)
]
