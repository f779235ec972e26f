-- The table `own` of a configuration: what it says, and its faults (own).
use Rattle.std.specs.Prelude.{◌≡◌, ℕ, Bool, true, false, List, codes, Option, Some, None, IfSome, IsSomeAnd, Result, Ok, Err, is_some}
use Rattle.std.specs.declared.net.socket_addr.SocketAddrV4.{SocketAddrV4}
use Rattle.toml.specs.Data.{Data, as_str, get}
use Rattle.config.specs.declared.own.Own.{Own}
use Rattle.config.specs.declared.own_key.OwnKey.{OwnKey}
use Rattle.config.specs.declared.own_key.OwnKey.TheVariants.{IdleSeconds, BindSeconds, WriteSeconds, LingerSeconds, Sessions, PartEntries}
use Rattle.config.specs.declared.own_fault.OwnFault.{OwnFault}
use Rattle.config.specs.declared.own_fault.OwnFault.TheVariants as faults
pub use Rattle.config.specs.Config.{IsDocument}
use Rattle.config.specs.Config.{number_at}
use Rattle.config.specs.Faults.{IsListenText, IsNumberOf}
use Rattle.config.specs.Listen.{IsListen}
use Rattle.config.specs.OwnKeys.{most_in, own_name}
use Rattle.config.specs.Rows.{is_table, text_in}

-- a key has a value that it may have, or none
abbrev pub IsFitOwn : Data → OwnKey → Type 0
IsFitOwn row key = IfSome (get (own_name key) row) (IsNumberOf 0 (most_in key))

-- `full` has the value "end", or none
abbrev pub IsFitFull : Data → Type 0
IsFitFull row = IfSome (get (codes "full") row) (λ value. as_str value ≡ Some (codes "end"))

abbrev pub ends_full_at : Data → Bool
ends_full_at row = is_some (get (codes "full") row)

-- what stands under a key; 0 if nothing does
abbrev pub limit_at : Data → OwnKey → ℕ
limit_at row key = number_at 0 (own_name key) row

-- `status` has the text of an address and a port, or no value
abbrev pub IsFitStatus : Data → Type 0
IsFitStatus row = IfSome (get (codes "status") row) IsListenText

-- the address of which the text stands under `status`; none if nothing stands there
abbrev pub IsStatusAt : Data → Option SocketAddrV4 → Type 0
IsStatusAt row None = get (codes "status") row ≡ None
IsStatusAt row (Some address) = IsSomeAnd (text_in (codes "status") row) (λ text. IsListen text address)

-- with the address that stands under `status`
abbrev pub own_at : Data → Option SocketAddrV4 → Own
own_at row status = record {
  idle_seconds = limit_at row IdleSeconds;
  bind_seconds = limit_at row BindSeconds;
  write_seconds = limit_at row WriteSeconds;
  linger_seconds = limit_at row LingerSeconds;
  sessions = limit_at row Sessions;
  part_entries = limit_at row PartEntries;
  ends_full = ends_full_at row;
  status = status;
}

-- what a key of a table says, or why not
abbrev pub IsLimit : Data → OwnKey → Result ℕ OwnFault → Type 0
IsLimit row key (Ok number) = IsFitOwn row key × (number ≡ limit_at row key)
IsLimit row key (Err fault) = (¬ IsFitOwn row key) × (fault ≡ faults.BadValue key)

-- what `full` says, or why not
abbrev pub IsEndsFull : Data → Result Bool OwnFault → Type 0
IsEndsFull row (Ok ends) = IsFitFull row × (ends ≡ ends_full_at row)
IsEndsFull row (Err fault) = (¬ IsFitFull row) × (fault ≡ faults.BadFull)

-- what `status` says, or why not
abbrev pub IsStatus : Data → Result (Option SocketAddrV4) OwnFault → Type 0
IsStatus row (Ok status) = IsStatusAt row status
IsStatus row (Err fault) = (¬ IsFitStatus row) × (fault ≡ faults.BadStatus)

-- what a value under `own` says, or why not
abbrev pub IsOwnIn : Data → Result Own OwnFault → Type 0
IsOwnIn row (Ok own) =
    (is_table row ≡ true) × ((key : OwnKey) → IsFitOwn row key) × IsFitFull row × IsStatusAt row own.status × (own ≡ own_at row own.status)
IsOwnIn row (Err faults.NotToml) = ⊥
IsOwnIn row (Err faults.NoTable) = is_table row ≡ false
IsOwnIn row (Err (faults.BadValue key)) = (is_table row ≡ true) × (¬ IsFitOwn row key)
IsOwnIn row (Err faults.BadFull) = (is_table row ≡ true) × (¬ IsFitFull row)
IsOwnIn row (Err faults.BadStatus) = (is_table row ≡ true) × (¬ IsFitStatus row)
IsOwnIn row (Err faults.Memory) = ⊥

-- nothing under `own` is no limit, and no page of the status
abbrev pub no_limits : Own
no_limits = record {
  idle_seconds = 0;
  bind_seconds = 0;
  write_seconds = 0;
  linger_seconds = 0;
  sessions = 0;
  part_entries = 0;
  ends_full = false;
  status = None;
}

abbrev pub IsOwnUnder : Option Data → Result Own OwnFault → Type 0
IsOwnUnder None result = result ≡ Ok no_limits
IsOwnUnder (Some row) result = IsOwnIn row result

-- What is read out of a text, or why not; of want of memory nothing is said.
abbrev pub IsOwnOutcome : List ℕ → Result Own OwnFault → Type 0
IsOwnOutcome octets (Err faults.NotToml) = (document : Data) → IsDocument octets document → ⊥
IsOwnOutcome octets (Err faults.Memory) = Unit {0}
IsOwnOutcome octets other = (document : Data) × IsDocument octets document × IsOwnUnder (get (codes "own") document) other

abbrev pub OwnReadsNone : List ℕ → OwnFault → Type 0
OwnReadsNone octets faults.NotToml = (document : Data) → IsDocument octets document → ⊥
OwnReadsNone octets faults.NoTable = ⊥
OwnReadsNone octets (faults.BadValue key) = ⊥
OwnReadsNone octets faults.BadFull = ⊥
OwnReadsNone octets faults.BadStatus = ⊥
OwnReadsNone octets faults.Memory = Unit {0}
