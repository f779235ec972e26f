-- The faults of a configuration: what is missing, what has a value that it may not have, and what is given twice (own).
use Rattle.std.specs.Prelude.{Bool, true, false, ◌≡◌, slice_get, ◌||◌, not, ◌==◌, ◌<◌, ◌≤◌, ◌-◌, ℕ, List, [], ◌∷◌, length, All, codes, Option, Some, None}
use Rattle.std.specs.Prelude.{IsSome, IsSomeAnd, IfSome, IsTrue}
use Rattle.std.specs.List.{AllByRecursion, list_all, list_any}
use Rattle.std.specs.declared.net.socket_addr.SocketAddrV4.{SocketAddrV4}
use Rattle.toml.specs.Data.{Data, Items, get, as_str, as_bool, as_array}
use Rattle.config.specs.declared.key.Key.{Key}
use Rattle.config.specs.declared.key.Key.TheVariants.{SystemId, DefaultValidity, FirstSerial, StopAfter, Node, Account, Route, NodeNumber}
use Rattle.config.specs.declared.key.Key.TheVariants.{NodeListen, NodeStore, AccountSystemId, AccountPassword, AccountTransmit}
use Rattle.config.specs.declared.key.Key.TheVariants.{AccountReceive, RoutePrefix, RouteAccount}
use Rattle.config.specs.declared.key.Part.TheVariants.{Nodes, Accounts}
use Rattle.config.specs.declared.place.Place.{Place}
use Rattle.config.specs.Keys.{is_needed, is_unique, name_of, part_of}
use Rattle.config.specs.Rows.{RepeatsAt, as_number, has_twice, is_table, listed, number_in, rows_of, same_number, same_text, text_in}
use Rattle.config.specs.Listen.{IsListen}

-- ---- what is missing

abbrev pub is_empty : List Data → Bool
is_empty [] = true
is_empty (first ∷ others) = false

abbrev pub is_no_list : Option Items → Bool
is_no_list None = false
is_no_list (Some items) = is_empty (listed items)

-- whether something stands under a key; an empty list of nodes is no node
abbrev pub stands : Key → Option Data → Bool
stands key None = false
stands Node (Some value) = not (is_no_list (as_array value))
stands key (Some value) = true

-- whether a row has a key; what is no table is a fault of another kind
abbrev pub has_key : Key → Data → Bool
has_key key row = not (is_table row) || stands key (get (name_of key) row)

-- nothing of the key is missing
abbrev pub is_given : Data → Key → Bool
is_given document key = not (is_needed key) || list_all (has_key key) (rows_of document (part_of key))

-- the row at a place lacks a key
pub record LacksAt (key : Key) (rows : List Data) (place : ℕ) : Type 0 where
  pub row : Data
  pub at : slice_get rows place ≡ Some row
  pub lacks : has_key key row ≡ false

-- one of its tables lacks a key that each must have
pub record IsMissing (document : Data) (place : Place) : Type 0 where
  pub needed : is_needed place.key ≡ true
  pub lacks : LacksAt place.key (rows_of document (part_of place.key)) place.row

-- ---- what a value may be

-- a text of so many octets, none zero
abbrev pub IsTextOf : ℕ → ℕ → Data → Type 0
IsTextOf least most value = IsSomeAnd (as_str value) (λ text. (least ≤ length text) × (length text ≤ most) × All (λ octet. 0 < octet) text)

abbrev pub IsNumberOf : ℕ → ℕ → Data → Type 0
IsNumberOf least most value = IsSomeAnd (as_number value) (λ number. (least ≤ number) × (number ≤ most))

abbrev pub AreTables : Data → Type 0
AreTables value = IsSomeAnd (as_array value) (λ items. IsTrue (list_all is_table (listed items)))

-- no tenth node
abbrev pub AreNodes : Data → Type 0
AreNodes value = IsSomeAnd (as_array value) (λ items. (length (listed items) ≤ 9) × IsTrue (list_all is_table (listed items)))

-- whether a row has this number
abbrev pub is_numbered : ℕ → Data → Bool
is_numbered number row = same_number (number_in (codes "number") row) (Some number)

-- 1, or the number behind that of another node: so there is no gap
abbrev pub IsNodeNumber : Data → Data → Type 0
IsNodeNumber document value = IsSomeAnd (as_number value) (λ number. (1 ≤ number) × (number ≤ 9)
    × IsTrue ((number == 1) || list_any (is_numbered (number - 1)) (rows_of document Nodes)))

abbrev pub IsListenText : Data → Type 0
IsListenText value = IsSomeAnd (as_str value) (λ text. (address : SocketAddrV4) × IsListen text address)

abbrev pub IsPathText : Data → Type 0
IsPathText value = IsSomeAnd (as_str value) (λ text. All (λ octet. 0 < octet) text)

-- whether a row is the account of this name
abbrev pub is_named : List ℕ → Data → Bool
is_named name row = same_text (text_in (codes "system_id") row) (Some name)

-- an account that the document has
abbrev pub IsAccountName : Data → Data → Type 0
IsAccountName document value = IsSomeAnd (as_str value) (λ text. IsTrue (list_any (is_named text) (rows_of document Accounts)))

abbrev pub Admits : Data → Key → Data → Type 0
Admits document SystemId value = IsTextOf 1 15 value
Admits document DefaultValidity value = IsNumberOf 1 31536000 value
Admits document FirstSerial value = IsNumberOf 1 99999 value
Admits document StopAfter value = IsSome (as_number value)
Admits document Node value = AreNodes value
Admits document Account value = AreTables value
Admits document Route value = AreTables value
Admits document NodeNumber value = IsNodeNumber document value
Admits document NodeListen value = IsListenText value
Admits document NodeStore value = IsPathText value
Admits document AccountSystemId value = IsTextOf 1 15 value
Admits document AccountPassword value = IsTextOf 0 8 value
Admits document AccountTransmit value = IsSome (as_bool value)
Admits document AccountReceive value = IsSome (as_bool value)
Admits document RoutePrefix value = IsTextOf 0 20 value
Admits document RouteAccount value = IsAccountName document value

abbrev pub Fits : Data → Key → Data → Type 0
Fits document key row = IfSome (get (name_of key) row) (Admits document key)

-- each value that is given for the key is one that it may have
abbrev pub IsFit : Data → Key → Type 0
IsFit document key = AllByRecursion (Fits document key) (rows_of document (part_of key))

-- in the row at a place the key has a value that it may not have
pub record DoesNotFitAt (document : Data) (key : Key) (rows : List Data) (place : ℕ) : Type 0 where
  pub row : Data
  pub at : slice_get rows place ≡ Some row
  pub unfit : ¬ Fits document key row

abbrev pub IsUnfit : Data → Place → Type 0
IsUnfit document place = DoesNotFitAt document place.key (rows_of document (part_of place.key)) place.row

-- ---- what is given twice

-- no account, prefix or node is given twice
abbrev pub is_once : Data → Key → Bool
is_once document key = not (is_unique key) || not (has_twice (name_of key) (rows_of document (part_of key)))

-- a table of a key of which no two may have one value has that of an earlier one
pub record IsAgain (document : Data) (place : Place) : Type 0 where
  pub unique : is_unique place.key ≡ true
  pub repeats : RepeatsAt (name_of place.key) (rows_of document (part_of place.key)) place.row
