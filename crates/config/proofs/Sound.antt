-- What is known of the rows of a document that has no fault.
use Rattle.std.proofs.Common.{◌≡◌, ℕ, ◌-◌, ◌<◌, ◌≤◌, Bool, true, false, not, ◌||◌, ◌==◌, List, [], ◌∷◌, length, Option, Some, None, IsTrue}
use Rattle.std.proofs.Common.{IsSome, IfSome, IsSomeAnd, option_and_then, codes, refl, sym, ap, subst, ◌∙◌, inl, inr, arith}
use Rattle.std.specs.List.{All, AllByRecursion, list_all, list_any}
use Rattle.std.specs.declared.net.socket_addr.SocketAddrV4.{SocketAddrV4}
use Rattle.std.proofs.lemmas.Bool.{and_parts, or_cases, false≢true, not-true}
use Rattle.std.proofs.lemmas.List.Elements.{All-nil}
use Rattle.std.proofs.lemmas.Slice.Eq.{bytes_eq-Decides}
use Rattle.octet_fields.specs.Texts.{IsText}
use Rattle.toml.specs.Data.{Data, Items, as_array, as_str, get}
use Rattle.config.specs.declared.key.Key.{Key}
use Rattle.config.specs.declared.key.Key.TheVariants as keys
use Rattle.config.specs.declared.key.Part.TheVariants.{Nodes, Accounts, Routes}
use Rattle.config.specs.Keys.{name_of}
use Rattle.config.specs.Listen.{IsListen}
use Rattle.config.specs.Rows.{as_number, elements_of, has_twice, is_table, listed, number_in, rows_of, same_text, text_in}
use Rattle.config.specs.Faults.{Admits, AreNodes, AreTables, Fits, IsAccountName, IsListenText, IsNodeNumber, IsNumberOf, IsTextOf}
use Rattle.config.specs.Faults.{has_key, is_named, is_numbered, stands}
use Rattle.config.specs.Config.{IsFaultless, or_default, or_empty}
use Rattle.config.specs.Building.{AreNumbered, IsAccountRow, IsNodeRow, IsRouteRow}
use Rattle.config.proofs.Lists.{all_weaker}

-- ---- a text

no_text : (limit : ℕ) → 0 < limit → IsText limit []
no_text limit above = record { short = above; no_zero = All-nil (λ octet. 0 < octet) }

short_of : (t : Option (List ℕ)) (least most limit : ℕ) → most < limit →
    IsSomeAnd t (λ text. (least ≤ length text) × (length text ≤ most) × All (λ octet. 0 < octet) text) →
    IsText limit (or_empty t)
short_of None least most limit below is = absurd is
short_of (Some text) least most limit below is = record { short = omega (arith, is.1); no_zero = is.2 }

pub text_short : (o : Option Data) (least most limit : ℕ) → most < limit → IfSome o (IsTextOf least most) → IsText limit (or_empty (option_and_then as_str o))
text_short None least most limit below is = no_text limit (omega arith)
text_short (Some value) least most limit below is = short_of (as_str value) least most limit below is

some_of : {A : Type 0} (t : Option A) (P : A → Type 0) → IsSomeAnd t P → IsSome t
some_of None P is = absurd is
some_of (Some x) P is = refl

pub text_given : (o : Option Data) (least most : ℕ) → IsSomeAnd o (IsTextOf least most) → IsSome (option_and_then as_str o)
text_given None least most is = absurd is
text_given (Some value) least most is = some_of (as_str value) _ is

-- ---- a number

number_below : (n : Option ℕ) (default least most bound : ℕ) → most ≤ bound → IsSomeAnd n (λ number. (least ≤ number) × (number ≤ most)) →
    or_default default n ≤ bound
number_below None default least most bound below is = absurd is
number_below (Some number) default least most bound below is = omega (arith, is.1)

pub number_within : (o : Option Data) (default least most bound : ℕ) → default ≤ bound → most ≤ bound → IfSome o (IsNumberOf least most) →
    or_default default (option_and_then as_number o) ≤ bound
number_within None default least most bound first below is = first
number_within (Some value) default least most bound first below is = number_below (as_number value) default least most bound below is

-- ---- what a listen is

listen_text : (t : Option (List ℕ)) → IsSomeAnd t (λ text. (address : SocketAddrV4) × IsListen text address) →
    (address : SocketAddrV4) × IsListen (or_empty t) address
listen_text None is = absurd is
listen_text (Some text) is = is

listen_value : (o : Option Data) → IsSomeAnd o IsListenText → (address : SocketAddrV4) × IsListen (or_empty (option_and_then as_str o)) address
listen_value None is = absurd is
listen_value (Some value) is = listen_text (as_str value) is

-- ---- the numbers of nodes

number_some : (n : Option ℕ) (P : ℕ → Type 0) → IsSomeAnd n P → IfSome n P
number_some None P is = absurd is
number_some (Some number) P is = is

number_value : (document : Data) (o : Option Data) → IfSome o (IsNodeNumber document) → IfSome (option_and_then as_number o)
    (λ number. (1 ≤ number) × (number ≤ 9)
    × IsTrue ((number == 1) || list_any (is_numbered (number - 1)) (rows_of document Nodes)))
number_value document None is = tt
number_value document (Some value) is = number_some (as_number value) _ is

-- ---- the rows are tables that have their keys

tables_in : (o : Option Items) → IfSome o (λ items. IsTrue (list_all is_table (listed items))) → list_all is_table (elements_of o) ≡ true
tables_in None are = refl
tables_in (Some items) are = are

some_tables : (o : Option Items) → IsSomeAnd o (λ items. IsTrue (list_all is_table (listed items))) →
    IfSome o (λ items. IsTrue (list_all is_table (listed items)))
some_tables None are = absurd are
some_tables (Some items) are = are

some_nodes : (o : Option Items) → IsSomeAnd o (λ items. (length (listed items) ≤ 9) × IsTrue (list_all is_table (listed items))) →
    IfSome o (λ items. IsTrue (list_all is_table (listed items)))
some_nodes None are = absurd are
some_nodes (Some items) are = are.1

tables_of : (o : Option Data) → IfSome o AreTables → list_all is_table (elements_of (option_and_then as_array o)) ≡ true
tables_of None are = refl
tables_of (Some value) are = tables_in (as_array value) (some_tables (as_array value) are)

nodes_tables : (o : Option Data) → IfSome o AreNodes → list_all is_table (elements_of (option_and_then as_array o)) ≡ true
nodes_tables None are = refl
nodes_tables (Some value) are = tables_in (as_array value) (some_nodes (as_array value) are)

stands_some : (key : Key) (o : Option Data) (P : Data → Type 0) → stands key o ≡ true → IfSome o P → IsSomeAnd o P
stands_some key None P is fits = absurd (false≢true is)
stands_some key (Some value) P is fits = fits

pub have : (document : Data) (key : Key) (rows : List Data) → list_all is_table rows ≡ true → list_all (has_key key) rows ≡ true →
    AllByRecursion (Fits document key) rows
    → AllByRecursion (λ row. IsSomeAnd (get (name_of key) row) (Admits document key)) rows
have document key [] tables given fit = tt
have document key (row ∷ rows) tables given fit =
    let table = and_parts (is_table row) (list_all is_table rows) tables in
    let has = and_parts (has_key key row) (list_all (has_key key) rows) given in
    let stand : stands key (get (name_of key) row) ≡ true = sym (ap (λ (b : Bool). not b || stands key (get (name_of key) row)) table.0) ∙ has.0 in
    (stands_some key (get (name_of key) row) (Admits document key) stand fit.0, have document key rows table.1 has.1 fit.1)

-- ---- each part

both : {A : Type 0} (P Q R : A → Type 0) → ((x : A) → P x → Q x → R x) → (xs : List A) → AllByRecursion P xs → AllByRecursion Q xs → AllByRecursion R xs
both P Q R f [] p q = tt
both P Q R f (x ∷ xs) p q = (f x p.0 q.0, both P Q R f xs p.1 q.1)

pub node_rows : (document : Data) → IsFaultless document → AllByRecursion IsNodeRow (rows_of document Nodes)
node_rows document is =
    all_weaker (λ row. IsSomeAnd (get (codes "listen") row) IsListenText) IsNodeRow (λ row listen. listen_value (get (codes "listen") row) listen) (rows_of document Nodes)
    (have document keys.NodeListen (rows_of document Nodes) (nodes_tables (get (codes "node") document) (is.fit keys.Node).0) (is.given keys.NodeListen) (is.fit keys.NodeListen))

pub node_numbers : (document : Data) → IsFaultless document → AreNumbered (rows_of document Nodes)
node_numbers document is =
    all_weaker (Fits document keys.NodeNumber) (λ row. IfSome (number_in (codes "number") row) (λ number. (1 ≤ number) × (number ≤ 9)
    × IsTrue ((number == 1) || list_any (is_numbered (number - 1)) (rows_of document Nodes)))) (λ row fits. number_value document (get (codes "number") row) fits) (rows_of document Nodes) (is.fit keys.NodeNumber)

account_tables : (document : Data) → IsFaultless document → list_all is_table (rows_of document Accounts) ≡ true
account_tables document is = tables_of (get (codes "account") document) (is.fit keys.Account).0

route_tables : (document : Data) → IsFaultless document → list_all is_table (rows_of document Routes) ≡ true
route_tables document is = tables_of (get (codes "route") document) (is.fit keys.Route).0

pub account_rows : (document : Data) → IsFaultless document → AllByRecursion IsAccountRow (rows_of document Accounts)
account_rows document is =
    both (λ row. IsSomeAnd (get (codes "system_id") row) (IsTextOf 1 15)) (λ row. Fits document keys.AccountSystemId row × Fits document keys.AccountPassword row) IsAccountRow
    (λ row given fits. record {
      named = text_given (get (codes "system_id") row) 1 15 given;
      system_id = text_short (get (codes "system_id") row) 1 15 16 (omega arith) fits.0;
      password = text_short (get (codes "password") row) 0 8 9 (omega arith) fits.1;
    }) (rows_of document Accounts)
    (have document keys.AccountSystemId (rows_of document Accounts) (account_tables document is) (is.given keys.AccountSystemId) (is.fit keys.AccountSystemId))
    (both (Fits document keys.AccountSystemId) (Fits document keys.AccountPassword)
    (λ row. Fits document keys.AccountSystemId row × Fits document keys.AccountPassword row) (λ row p q. (p, q))
    (rows_of document Accounts) (is.fit keys.AccountSystemId) (is.fit keys.AccountPassword))

-- ---- a route leads to an account

named_text : (t : Option (List ℕ)) (text : List ℕ) → IsText 16 (or_empty t) → same_text t (Some text) ≡ true → IsText 16 text
named_text None text short same = absurd (false≢true same)
named_text (Some name) text short same = subst (IsText 16) ((bytes_eq-Decides name text).0 same) short

named_short : (rows : List Data) (text : List ℕ) → AllByRecursion IsAccountRow rows → list_any (is_named text) rows ≡ true → IsText 16 text
named_short [] text are any = absurd (false≢true any)
named_short (row ∷ rows) text are any = elim (or_cases (is_named text row) (list_any (is_named text) rows) any) [
  | inl here ↦ named_text (text_in (codes "system_id") row) text are.0.system_id here
  | inr later ↦ named_short rows text are.1 later
]

name_text : (document : Data) (t : Option (List ℕ)) → AllByRecursion IsAccountRow (rows_of document Accounts) →
    IsSomeAnd t (λ text. IsTrue (list_any (is_named text) (rows_of document Accounts))) →
    IsText 16 (or_empty t)
name_text document None are is = absurd is
name_text document (Some text) are is = named_short (rows_of document Accounts) text are is

account_text : (document : Data) (o : Option Data) → AllByRecursion IsAccountRow (rows_of document Accounts) →
    IfSome o (IsAccountName document) →
    IsText 16 (or_empty (option_and_then as_str o))
account_text document None are is = no_text 16 (omega arith)
account_text document (Some value) are is = name_text document (as_str value) are is

pub route_rows : (document : Data) → IsFaultless document → AllByRecursion IsRouteRow (rows_of document Routes)
route_rows document is =
    both (λ row. IsSomeAnd (get (codes "prefix") row) (IsTextOf 0 20)) (λ row. Fits document keys.RoutePrefix row × Fits document keys.RouteAccount row) IsRouteRow
    (λ row given fits. record {
      given = text_given (get (codes "prefix") row) 0 20 given;
      prefix = text_short (get (codes "prefix") row) 0 20 21 (omega arith) fits.0;
      account = account_text document (get (codes "account") row) (account_rows document is) fits.1;
    }) (rows_of document Routes)
    (have document keys.RoutePrefix (rows_of document Routes) (route_tables document is) (is.given keys.RoutePrefix) (is.fit keys.RoutePrefix))
    (both (Fits document keys.RoutePrefix) (Fits document keys.RouteAccount)
    (λ row. Fits document keys.RoutePrefix row × Fits document keys.RouteAccount row) (λ row p q. (p, q)) (rows_of document Routes)
    (is.fit keys.RoutePrefix) (is.fit keys.RouteAccount))

-- ---- nothing is given twice

pub accounts_once : (document : Data) → IsFaultless document → has_twice (codes "system_id") (rows_of document Accounts) ≡ false
accounts_once document is = not-true _ (is.once keys.AccountSystemId)

pub routes_once : (document : Data) → IsFaultless document → has_twice (codes "prefix") (rows_of document Routes) ≡ false
routes_once document is = not-true _ (is.once keys.RoutePrefix)
