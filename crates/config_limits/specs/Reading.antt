-- What the tables of accounts say of limits (own).
use Rattle.std.specs.Prelude.{◌≡◌, ◌⊎◌, ◌<◌, ◌≤◌, ℕ, List, [], ◌∷◌, codes, length, slice_get, Option, Some, None, IsSomeAnd, Ok, Err}
use Rattle.toml.specs.Data.{Data, get, as_str, as_array}
use Rattle.account_limits.specs.declared.net.Net.{Net}
use Rattle.account_limits.specs.declared.net_fault.NetFault.{NetFault}
use Rattle.account_limits.specs.declared.sender_pattern.SenderPattern.{SenderPattern}
use Rattle.account_limits.specs.declared.sender_fault.SenderFault.TheVariants as sender_faults
use Rattle.account_limits.specs.declared.password_hash.PasswordHash.{PasswordHash}
use Rattle.account_limits.specs.declared.hash_fault.HashFault.{HashFault}
use Rattle.account_limits.specs.declared.limits.Limits.{Limits}
use Rattle.account_limits.specs.Nets.{IsNetOutcome}
use Rattle.account_limits.specs.Senders.{IsPatternOutcome}
use Rattle.account_limits.specs.Passwords.{hash_in}
use Rattle.config.specs.Config.{text_at}
use Rattle.config.specs.Faults.{IsNumberOf}
use Rattle.config.specs.Rows.{as_number, elements_of}
use Rattle.config_limits.specs.declared.key.LimitKey.{LimitKey}
use Rattle.config_limits.specs.declared.key.LimitKey.TheVariants.{From, Sessions, PerSecond, Senders, PasswordSha256}
use Rattle.config_limits.specs.declared.fault.LimitsFault.{LimitsFault}
use Rattle.config_limits.specs.declared.fault.LimitsFault.TheVariants as faults
use Rattle.config_limits.specs.declared.row_fault.RowFault.{RowFault}
use Rattle.config_limits.specs.declared.row_fault.RowFault.TheVariants as row_faults
use Rattle.config_limits.specs.declared.limited_account.LimitedAccount.{LimitedAccount}
use Rattle.config_limits.specs.Keys.{limit_name, most_in}

-- ---- lists

abbrev pub elements : Data → List Data
elements value = elements_of (as_array value)

-- each of some values says one of some things, in order
abbrev pub EachSays : {A B : Type 0} → (A → B → Type 0) → List A → List B → Type 0
EachSays Says [] [] = Unit {0}
EachSays Says [] (thing ∷ things) = ⊥
EachSays Says (value ∷ values) [] = ⊥
EachSays Says (value ∷ values) (thing ∷ things) = Says value thing × EachSays Says values things

-- one of some values is bad, or there is none
abbrev pub HasBad : (Data → Type 0) → List Data → Type 0
HasBad IsBad values = (values ≡ []) ⊎ ((place : ℕ) × (value : Data) × (slice_get values place ≡ Some value) × IsBad value)

-- ---- numbers, and the hash of a password

-- what stands under a key, from 1 to its greatest number; 0 if nothing does
abbrev pub IsNumberAt : LimitKey → Option Data → ℕ → Type 0
IsNumberAt key None number = number ≡ 0
IsNumberAt key (Some value) number = (as_number value ≡ Some number) × (1 ≤ number) × (number ≤ most_in key)

abbrev pub IsBadNumber : LimitKey → Option Data → Type 0
IsBadNumber key given = IsSomeAnd given (λ value. ¬ IsNumberOf 1 (most_in key) value)

abbrev pub IsHashText : Option (List ℕ) → PasswordHash → Type 0
IsHashText text hash = IsSomeAnd text (λ octets. hash_in octets ≡ Ok hash)

abbrev pub IsBadHashText : Option (List ℕ) → Type 0
IsBadHashText None = Unit {0}
IsBadHashText (Some text) = (why : HashFault) × (hash_in text ≡ Err why)

abbrev pub IsHashAt : Option Data → Option PasswordHash → Type 0
IsHashAt None hash = hash ≡ None
IsHashAt (Some value) hash = IsSomeAnd hash (IsHashText (as_str value))

abbrev pub IsBadHash : Option Data → Type 0
IsBadHash given = IsSomeAnd given (λ value. IsBadHashText (as_str value))

-- ---- nets and senders

abbrev pub IsNet : Data → Net → Type 0
IsNet value net = IsSomeAnd (as_str value) (λ text. IsNetOutcome text (Ok net))

abbrev pub IsBadNetText : Option (List ℕ) → Type 0
IsBadNetText None = Unit {0}
IsBadNetText (Some text) = (why : NetFault) × IsNetOutcome text (Err why)

abbrev pub IsBadNet : Data → Type 0
IsBadNet value = IsBadNetText (as_str value)

abbrev pub IsSender : Data → SenderPattern → Type 0
IsSender value sender = IsSomeAnd (as_str value) (λ text. IsPatternOutcome text (Ok sender))

abbrev pub IsBadSenderText : Option (List ℕ) → Type 0
IsBadSenderText None = Unit {0}
IsBadSenderText (Some text) = IsPatternOutcome text (Err sender_faults.TooLong) ⊎ IsPatternOutcome text (Err sender_faults.BadOctet)

abbrev pub IsBadSender : Data → Type 0
IsBadSender value = IsBadSenderText (as_str value)

-- what an array under a key says, of one element at least; nothing if nothing stands there
abbrev pub AreAt : {B : Type 0} → (Data → B → Type 0) → Option Data → List B → Type 0
AreAt Says None things = things ≡ []
AreAt Says (Some value) things = (0 < length (elements value)) × EachSays Says (elements value) things

abbrev pub AreBadAt : (Data → Type 0) → Option Data → Type 0
AreBadAt IsBad given = IsSomeAnd given (λ value. HasBad IsBad (elements value))

-- ---- the table of an account

abbrev pub given : LimitKey → Data → Option Data
given key row = get (limit_name key) row

pub record AreLimits (row : Data) (limits : Limits) : Type 0 where
  pub from : AreAt IsNet (given From row) limits.from.items
  pub sessions : IsNumberAt Sessions (given Sessions row) limits.sessions
  pub per_second : IsNumberAt PerSecond (given PerSecond row) limits.per_second
  pub senders : AreAt IsSender (given Senders row) limits.senders.items
  pub password : IsHashAt (given PasswordSha256 row) limits.password

-- a key has a value that it may not have
abbrev pub IsBadAt : Data → LimitKey → Type 0
IsBadAt row From = AreBadAt IsBadNet (given From row)
IsBadAt row Sessions = IsBadNumber Sessions (given Sessions row)
IsBadAt row PerSecond = IsBadNumber PerSecond (given PerSecond row)
IsBadAt row Senders = AreBadAt IsBadSender (given Senders row)
IsBadAt row PasswordSha256 = IsBadHash (given PasswordSha256 row)

-- of want of memory nothing is said
abbrev pub IsRowFault : Data → RowFault → Type 0
IsRowFault row (row_faults.BadValue key) = IsBadAt row key
IsRowFault row row_faults.Memory = Unit {0}

pub record IsLimited (row : Data) (account : LimitedAccount) : Type 0 where
  pub system_id : account.system_id.items ≡ text_at (codes "system_id") row
  pub limits : AreLimits row account.limits

-- ---- all tables

abbrev pub AreLimited : List Data → List LimitedAccount → Type 0
AreLimited rows accounts = EachSays IsLimited rows accounts

-- in the table at a place a key has a value that it may not have; of want of memory nothing is said
abbrev pub IsFaultIn : List Data → LimitsFault → Type 0
IsFaultIn rows (faults.BadValue key place) = (row : Data) × (slice_get rows place ≡ Some row) × IsBadAt row key
IsFaultIn rows faults.Memory = Unit {0}

-- ---- step by step

-- a fault of a key, if this is so; of want of memory nothing is said
abbrev pub IsFaultOf : LimitKey → Type 0 → RowFault → Type 0
IsFaultOf key Bad (row_faults.BadValue other) = (other ≡ key) × Bad
IsFaultOf key Bad row_faults.Memory = Unit {0}

-- the fault of the table at a place
abbrev pub fault_at : RowFault → ℕ → LimitsFault
fault_at (row_faults.BadValue key) place = faults.BadValue key place
fault_at row_faults.Memory place = faults.Memory
