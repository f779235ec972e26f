-- What the rows of a document say of its keys.
use Rattle.std.proofs.Common.{◌≡◌, ◌↔◌, ℕ, ◌+◌, ◌<◌, Bool, true, false, not, ◌||◌, List, ◌∷◌, length, map, drop, get_or, Option, Some}
use Rattle.std.proofs.Common.{None, MatchOption, IfSome, IsSomeAnd, IsTrue, codes, is_some, refl, sym, ap, subst, ◌∙◌}
use Rattle.std.proofs.lemmas.Bool.{false≢true}
use Rattle.std.proofs.lemmas.List.{drop_more, length-map}
use Rattle.std.specs.List.{AllByRecursion, list_all, list_any}
use Rattle.std.specs.declared.net.socket_addr.SocketAddrV4.{SocketAddrV4}
use Rattle.toml.specs.Data.{Data, as_str, get}
use Rattle.toml.specs.declared.value.Value.{Value}
use Rattle.toml.specs.View.{view, items_view}
use Rattle.config.specs.declared.key.Key.{Key}
use Rattle.config.specs.Keys.{is_needed, part_of}
use Rattle.config.specs.Rows.{has_twice, is_table, listed, rows_of, same_value}
use Rattle.config.specs.Listen.{IsListen}
use Rattle.config.specs.Faults.{DoesNotFitAt, Fits, IsFit, IsListenText, IsMissing, IsUnfit, LacksAt, has_key, is_given}
use Rattle.config.specs.Own.{IsFitStatus}
use Rattle.config.proofs.Lists.{all_from_map, all_of_map, any_of_map, listed_view}

pub given_here : (document : Data) (key : Key) (rows : List Value) → is_needed key ≡ true → map view rows ≡ rows_of document (part_of key)
    → list_all (λ row. has_key key (view row)) rows ≡ is_given document key
given_here document key rows needed are =
    sym (ap (λ (b : Bool). not b || list_all (has_key key) (rows_of document (part_of key))) needed
    ∙ ap (λ (ds : List Data). list_all (has_key key) ds) (sym are)
    ∙ all_of_map (has_key key) view rows)

-- a key that each of its tables must have, by the first of them that lacks it
pub missing_here : (document : Data) (key : Key) (rows : List Value) (result : Option ℕ) → is_needed key ≡ true → map view rows ≡ rows_of document (part_of key)
    → MatchOption result (list_all (λ row. has_key key (view row)) rows ≡ true) (λ place. LacksAt key (map view rows) place)
    → MatchOption result (is_given document key ≡ true) (λ row. IsMissing document (record { key = key; row = row }))
missing_here document key rows None needed are all = sym (given_here document key rows needed are) ∙ all
missing_here document key rows (Some place) needed are lacks = record {
  needed = needed;
  lacks = subst (λ (all : List Data). LacksAt key all place) are lacks;
}

-- what a key may be, by the first of its tables in which it is not
pub unfit_here : (document : Data) (key : Key) (rows : List Value) (result : Option ℕ) → map view rows ≡ rows_of document (part_of key)
    → MatchOption result (AllByRecursion (λ row. Fits document key (view row)) rows) (λ place. DoesNotFitAt document key (map view rows) place)
    → MatchOption result (IsFit document key) (λ row. IsUnfit document (record { key = key; row = row }))
unfit_here document key rows None are all = subst (AllByRecursion (Fits document key)) are (all_from_map (Fits document key) view rows all)
unfit_here document key rows (Some place) are unfit = subst (λ (all : List Data). DoesNotFitAt document key all place) are unfit

-- ---- what a value may be

pub tables_view : (values : List Value) → list_all is_table (listed (items_view values)) ≡ list_all (λ value. is_table (view value)) values
tables_view values = ap (λ (ds : List Data). list_all is_table ds) (listed_view values) ∙ all_of_map is_table view values

pub count_view : (values : List Value) → length (listed (items_view values)) ≡ length values
count_view values = ap (λ (ds : List Data). length ds) (listed_view values) ∙ length-map values view

pub any_here : (p : Data → Bool) (rows : List Value) (all : List Data) → map view rows ≡ all → list_any (λ row. p (view row)) rows ≡ list_any p all
any_here p rows all are = sym (any_of_map p view rows) ∙ ap (λ (ds : List Data). list_any p ds) are

pub listen_found : (text : List ℕ) (found : Option SocketAddrV4) →
    MatchOption found ((address : SocketAddrV4) → IsListen text address → ⊥) (λ address. IsListen text address)
    → IsTrue (is_some found) ↔ ((address : SocketAddrV4) × IsListen text address)
listen_found text None is = (λ yes. absurd (false≢true yes), λ some. absurd (is some.0 some.1))
listen_found text (Some address) is = (λ yes. (address, is), λ some. refl)

-- ---- row by row

twice_here : (name : List ℕ) (rows : List Value) (place : ℕ) (first : Value) → place < length rows → first ≡ get_or rows place first
    → has_twice name (map view (drop place rows)) ≡
    (list_any (λ other. same_value name (view first) (view other)) (drop (place + 1) rows) || has_twice name (map view (drop (place + 1) rows)))
twice_here name rows place first below is =
    ap (λ (vs : List Value). has_twice name (map view vs)) (drop_more rows place first below ∙ ap (λ (v : Value). v ∷ drop (place + 1) rows) (sym is))
    ∙ ap (λ (b : Bool). b || has_twice name (map view (drop (place + 1) rows))) (any_of_map (same_value name (view first)) view (drop (place + 1) rows))

pub not_again : (name : List ℕ) (rows : List Value) (place : ℕ) (first : Value) → place < length rows → first ≡ get_or rows place first
    → has_twice name (map view (drop place rows)) ≡ has_twice name (map view rows)
    → list_any (λ other. same_value name (view first) (view other)) (drop (place + 1) rows) ≡ false → has_twice name
    (map view (drop (place + 1) rows)) ≡ has_twice name (map view rows)
not_again name rows place first below is so_far again =
    sym (ap (λ (b : Bool). b || has_twice name (map view (drop (place + 1) rows))) again) ∙ sym (twice_here name rows place first below is) ∙ so_far

-- ---- the table `own`

-- a text under `status` that is no address and port
pub status_unfit : (row : Data) (value : Data) (text : List ℕ) → get (codes "status") row ≡ Some value → as_str value ≡ Some text
    → ((address : SocketAddrV4) → IsListen text address → ⊥) → ¬ IsFitStatus row
status_unfit row value text there here none = λ fit.
    let under : IsListenText value = subst (λ (at : Option Data). IfSome at IsListenText) there fit in
    let some : (address : SocketAddrV4) × IsListen text address =
    subst (λ (at : Option (List ℕ)). IsSomeAnd at (λ texts. (address : SocketAddrV4) × IsListen texts address)) here under in
    none some.0 some.1
