-- What an account is limited to (own). An empty list and a number of 0 limit nothing.
use Rattle.std.specs.Prelude.{◌≡◌, ℕ, Bool, true, ◌||◌, ◌==◌, nat_lt, List, [], ◌∷◌, None}
use Rattle.std.specs.List.{list_any}
use Rattle.std.specs.declared.net.ip_addr.IpAddr.{IpAddr}
use Rattle.account_limits.specs.declared.limits.Limits.{Limits}
use Rattle.account_limits.specs.declared.net.Net.{Net}
use Rattle.account_limits.specs.declared.sender_pattern.SenderPattern.{SenderPattern}
use Rattle.account_limits.specs.Nets.{is_in}
use Rattle.account_limits.specs.Senders.{admits_source}

pub record AreNoLimits (limits : Limits) : Type 0 where
  pub from : limits.from.items ≡ []
  pub sessions : limits.sessions ≡ 0
  pub per_second : limits.per_second ≡ 0
  pub senders : limits.senders.items ≡ []
  pub password : limits.password ≡ None

-- whether a session may bind from an address
abbrev pub admits_address : List Net → IpAddr → Bool
admits_address [] address = true
admits_address (first ∷ others) address = list_any (λ net. is_in net address) (first ∷ others)

-- whether one more may where so many are bound
abbrev pub admits_session : ℕ → ℕ → Bool
admits_session most bound = (most == 0) || nat_lt bound most

-- whether a submit_sm may have a source_addr
abbrev pub admits_sender : List SenderPattern → List ℕ → Bool
admits_sender [] source = true
admits_sender (first ∷ others) source = list_any (λ sender. admits_source sender source) (first ∷ others)
