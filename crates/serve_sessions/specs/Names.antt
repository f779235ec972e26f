-- Octets of an ESME that an operator reads (own).
use Rattle.std.specs.Prelude.{◌&&◌, ℕ, Bool, nat_lt, if◌then◌else◌}

-- visible ASCII: 0x21 to 0x7E
abbrev pub is_visible : ℕ → Bool
is_visible octet = nat_lt 32 octet && nat_lt octet 127

-- `.` in the place of what is not visible
abbrev pub shown : ℕ → ℕ
shown octet = if is_visible octet then octet else 46
