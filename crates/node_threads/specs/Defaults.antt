-- What a node goes by if a message does not say it (own).
use Rattle.std.specs.Prelude.{ℕ, ◌≤◌}

-- the serial with which each incarnation begins, and for how many seconds a message is valid that does not say it
pub record Defaults : Type 0 where
  pub first_serial : ℕ
  pub default_validity : ℕ

-- each incarnation begins with the serial 1
abbrev pub from_one : ℕ → Defaults
from_one validity = record { first_serial = 1; default_validity = validity }

-- there is such a serial
abbrev pub AreDefaults : Defaults → Type 0
AreDefaults defaults = (1 ≤ defaults.first_serial) × (defaults.first_serial ≤ 99999)
