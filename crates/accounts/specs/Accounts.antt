-- The accounts of ESMEs, and the binds that each may make.
use Rattle.std.specs.Prelude.{Bool, ◌&&◌, not, ◌≡◌, ℕ, List, [], ◌∷◌, Option, Some, None, if◌then◌else◌}
use Rattle.std.specs.List.{find}
use Rattle.std.specs.Str.{bytes_eq}
use Rattle.pdu_tables.specs.declared.status.Status.{Status}
use Rattle.pdu_tables.specs.declared.status.Status.TheVariants as statuses
use Rattle.pdu_bodies.specs.declared.pdu.Bind.{Bind}
use Rattle.accounts.specs.declared.account.Account.{Account}
use Rattle.accounts.specs.declared.role.Role.{Role}
use Rattle.accounts.specs.declared.role.Role.TheVariants.{Transmitter, Receiver, Transceiver}

-- the roles that an account may bind in (SMPP 3.4, 2.2): a transceiver both submits and is delivered to
abbrev pub allows : Account → Role → Bool
allows account Transmitter = account.transmit
allows account Receiver = account.receive
allows account Transceiver = account.transmit && account.receive

-- the account of a system_id, if there is one
abbrev pub account_of : List Account → List ℕ → Option Account
account_of accounts system_id = find (λ account. bytes_eq account.system_id system_id) accounts

-- no two have one system_id
abbrev pub AreApart : List Account → Type 0
AreApart [] = Unit {0}
AreApart (first ∷ others) = (account_of others first.system_id ≡ None) × AreApart others

-- a bind is refused by the first of its checks that fails: its account, its password, its role (own: which status, and in this order)
abbrev pub bind_refusal : Option Account → Role → Bind → Option Status
bind_refusal None role bind = Some statuses.InvalidSystemId
bind_refusal (Some account) role bind =
    if not (bytes_eq account.password bind.password) then Some statuses.InvalidPassword
    else if not (allows account role) then Some statuses.BindFailed
    else None
