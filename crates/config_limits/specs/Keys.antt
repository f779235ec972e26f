-- The keys of limits in the table of an account (own).
use Rattle.std.specs.Prelude.{ℕ, List, codes}
use Rattle.config_limits.specs.declared.key.LimitKey.{LimitKey}
use Rattle.config_limits.specs.declared.key.LimitKey.TheVariants.{From, Sessions, PerSecond, Senders, PasswordSha256}

abbrev pub limit_name : LimitKey → List ℕ
limit_name From = codes "from"
limit_name Sessions = codes "sessions"
limit_name PerSecond = codes "per_second"
limit_name Senders = codes "senders"
limit_name PasswordSha256 = codes "password_sha256"

-- the greatest number; of the others none is one
abbrev pub most_in : LimitKey → ℕ
most_in From = 0
most_in Sessions = 99
most_in PerSecond = 100000
most_in Senders = 0
most_in PasswordSha256 = 0
