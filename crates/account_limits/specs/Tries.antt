-- Tries to bind: five of one address in a second (own).
use Rattle.std.specs.Prelude.{ℕ, Bool, ◌&&◌, ◌==◌, nat_lt, ◌-◌, List, [], ◌∷◌, ◌++◌, filter, Option, Some, None, if◌then◌else◌}
use Rattle.std.specs.List.{remove}
use Rattle.std.specs.declared.net.ip_addr.IpAddr.{IpAddr}
use Rattle.account_limits.specs.declared.bind_tries.BindTry.{BindTry}
use Rattle.account_limits.specs.Addresses.{same_address}

-- whether it is less than a second ago at a moment
abbrev pub is_recent : ℕ → BindTry → Bool
is_recent moment a_try = nat_lt (moment - a_try.moment) 1000

abbrev pub recent : ℕ → List BindTry → List BindTry
recent moment tries = filter (is_recent moment) tries

abbrev pub is_from : IpAddr → BindTry → Bool
is_from address a_try = same_address a_try.address address

-- whether the second is the first
abbrev pub is_try : BindTry → BindTry → Bool
is_try a_try other = same_address other.address a_try.address && (other.moment == a_try.moment)

-- what is left once somebody tried: the recent ones, and this one if it counts
abbrev pub left_by : Bool → BindTry → List BindTry → List BindTry
left_by taken a_try tries = if taken then recent a_try.moment tries ++ a_try ∷ [] else recent a_try.moment tries

-- the others, when the one at a place leaves
abbrev pub without : Option ℕ → List BindTry → List BindTry
without None tries = tries
without (Some place) tries = remove tries place
