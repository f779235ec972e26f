-- What a configuration is read to say.
use Rattle.std.specs.Prelude.{Bool, true, false, ◌≡◌, ℕ, suc, List, [], map, codes, slice_get, string_bytes, IsUtf8, Option, Some, None}
use Rattle.std.specs.Prelude.{option_map, option_and_then, Result, Ok, Err}
use Rattle.std.specs.List.{find}
use Rattle.toml.specs.Data.{Data, Members, table, get, as_bool}
use Rattle.toml.specs.Parse.{parse_document}
use Rattle.accounts.specs.declared.account.Account.{Account}
use Rattle.accounts.specs.declared.route.Route.{Route}
use Rattle.config.specs.declared.key.Key.{Key}
use Rattle.config.specs.declared.key.Part.TheVariants.{Nodes, Accounts, Routes}
use Rattle.config.specs.declared.fault.ConfigFault.{ConfigFault}
use Rattle.config.specs.declared.fault.ConfigFault.TheVariants.{NotToml, Missing, BadValue, Repeated, Memory}
use Rattle.config.specs.declared.config.Config.{Config}
use Rattle.config.specs.declared.config.NodeConfig.{NodeConfig}
use Rattle.config.specs.Listen.{IsListen}
use Rattle.config.specs.Rows.{number_in, rows_of, text_in}
use Rattle.config.specs.Faults.{IsAgain, IsFit, IsMissing, IsUnfit, is_given, is_numbered, is_once}

-- ---- what stands under a name; what does not is empty, false or the default

abbrev pub or_empty : Option (List ℕ) → List ℕ
or_empty None = []
or_empty (Some text) = text

abbrev pub or_false : Option Bool → Bool
or_false None = false
or_false (Some flag) = flag

abbrev pub or_default : ℕ → Option ℕ → ℕ
or_default default None = default
or_default default (Some number) = number

abbrev pub text_at : List ℕ → Data → List ℕ
text_at name row = or_empty (text_in name row)

abbrev pub flag_at : List ℕ → Data → Bool
flag_at name row = or_false (option_and_then as_bool (get name row))

abbrev pub number_at : ℕ → List ℕ → Data → ℕ
number_at default name row = or_default default (number_in name row)

-- ---- the configuration of a document

abbrev pub account_at : Data → Account
account_at row = record {
  system_id = text_at (codes "system_id") row;
  password = text_at (codes "password") row;
  transmit = flag_at (codes "transmit") row;
  receive = flag_at (codes "receive") row;
}

abbrev pub route_at : Data → Route
route_at row = record { prefix = text_at (codes "prefix") row; account = text_at (codes "account") row }

pub record IsNode (row : Data) (node : NodeConfig) : Type 0 where
  pub listen : IsListen (text_at (codes "listen") row) node.listen
  pub store : option_map string_bytes node.store ≡ text_in (codes "store") row

-- the row of this number
abbrev pub numbered : List Data → ℕ → Option Data
numbered rows number = find (is_numbered number) rows

abbrev pub IsNodeAt : Option Data → Option NodeConfig → Type 0
IsNodeAt None None = Unit {0}
IsNodeAt None (Some node) = ⊥
IsNodeAt (Some row) None = ⊥
IsNodeAt (Some row) (Some node) = IsNode row node

-- the nodes stand in the order of their numbers, from 1
abbrev pub AreNodes : List Data → List NodeConfig → Type 0
AreNodes rows nodes = (place : ℕ) → IsNodeAt (numbered rows (suc place)) (slice_get nodes place)

pub record IsConfig (document : Data) (config : Config) : Type 0 where
  pub system_id : config.system_id ≡ text_at (codes "system_id") document
  pub default_validity : config.default_validity ≡ number_at 259200 (codes "default_validity") document
  pub first_serial : config.first_serial ≡ number_at 1 (codes "first_serial") document
  pub stop_after : config.stop_after ≡ number_at 0 (codes "stop_after") document
  pub nodes : AreNodes (rows_of document Nodes) config.nodes.items
  pub accounts : config.accounts ≡ map account_at (rows_of document Accounts)
  pub routes : config.routes ≡ map route_at (rows_of document Routes)

-- ---- what is read

abbrev pub IsGiven : Data → Type 0
IsGiven document = (key : Key) → is_given document key ≡ true

abbrev pub AreFit : Data → Type 0
AreFit document = (key : Key) → IsFit document key

pub record IsFaultless (document : Data) : Type 0 where
  pub given : IsGiven document
  pub fit : AreFit document
  pub once : (key : Key) → is_once document key ≡ true

-- The fault of the lowest number that fits, with a place at which it is.
abbrev pub HasFault : Data → ConfigFault → Type 0
HasFault document NotToml = ⊥
HasFault document (Missing place) = IsMissing document place
HasFault document (BadValue place) = IsGiven document × IsUnfit document place
HasFault document (Repeated place) = IsGiven document × AreFit document × IsAgain document place
HasFault document Memory = ⊥

-- the table of octets that are TOML
pub record IsDocument (octets : List ℕ) (document : Data) : Type 0 where
  pub utf8 : IsUtf8 octets
  pub members : Members
  pub parsed : parse_document octets ≡ Some members
  pub is : document ≡ table members

-- the configuration, or the lowest fault; of want of memory nothing is said
abbrev pub IsOutcome : List ℕ → Result Config ConfigFault → Type 0
IsOutcome octets (Ok config) = (document : Data) × IsDocument octets document × IsFaultless document × IsConfig document config
IsOutcome octets (Err NotToml) = (document : Data) → IsDocument octets document → ⊥
IsOutcome octets (Err (Missing place)) = (document : Data) × IsDocument octets document × HasFault document (Missing place)
IsOutcome octets (Err (BadValue place)) = (document : Data) × IsDocument octets document × HasFault document (BadValue place)
IsOutcome octets (Err (Repeated place)) = (document : Data) × IsDocument octets document × HasFault document (Repeated place)
IsOutcome octets (Err Memory) = Unit {0}

-- ---- in two steps

abbrev pub ReadsNone : List ℕ → ConfigFault → Type 0
ReadsNone octets NotToml = (document : Data) → IsDocument octets document → ⊥
ReadsNone octets (Missing place) = ⊥
ReadsNone octets (BadValue place) = ⊥
ReadsNone octets (Repeated place) = ⊥
ReadsNone octets Memory = Unit {0}

abbrev pub IsChecked : Data → Result (Unit {0}) ConfigFault → Type 0
IsChecked document (Ok nothing) = IsFaultless document
IsChecked document (Err fault) = HasFault document fault
