-- By what moments a server goes: a clock that rises alone leads, and that of the system is followed where it is near, or stays apart for ten minutes (own).
-- All in milliseconds.
use Rattle.std.specs.Prelude.{ℕ, ◌-◌, ◌/◌, ◌&&◌, Bool, false, Option, Some, None, max, nat_le, nat_lt, if◌then◌else◌}
use Rattle.std.specs.Option.{is_none}
use Rattle.connection_parts.specs.Tallies.{sum_of}

pub record Timepiece : Type 0 where
  -- what was told last, since 1970
  pub moment : ℕ
  -- what the clock that rises alone said then
  pub steady : ℕ
  -- what it said when the system's clock came apart
  pub apart : Option ℕ

abbrev pub gone : Timepiece → ℕ → ℕ
gone piece steady = steady - piece.steady

-- what the clock that rises alone makes of the moment that was told last
abbrev pub expected : Timepiece → ℕ → ℕ
expected piece steady = sum_of piece.moment (gone piece steady)

-- at most five seconds from each other
abbrev pub is_near : ℕ → ℕ → Bool
is_near one other = nat_le (one - other) 5000 && nat_le (other - one) 5000

-- whether it was apart for less than ten minutes
abbrev pub is_new : Option ℕ → ℕ → Bool
is_new None steady = false
is_new (Some since) steady = nat_lt (steady - since) 600000

-- the system's clock comes apart by what it says now
abbrev pub comes_apart : Timepiece → ℕ → ℕ → Bool
comes_apart piece steady system = if is_near (expected piece steady) system then false else is_none piece.apart

-- what is told of a clock that is apart: if it is so for ten minutes it is followed, at once if it is ahead; if it is behind, time takes half its pace
abbrev pub told_apart : Timepiece → ℕ → ℕ → ℕ
told_apart piece steady system =
    if is_none piece.apart then expected piece steady
    else if is_new piece.apart (max piece.steady steady) then expected piece steady
    else if nat_lt (expected piece steady) system then system
    else sum_of piece.moment (gone piece steady / 2)

abbrev pub since_when : Option ℕ → ℕ → Option ℕ
since_when None steady = Some steady
since_when (Some since) steady = Some since

-- a timepiece after both clocks were read
abbrev pub after : Timepiece → ℕ → ℕ → Timepiece
after piece steady system =
    if is_near (expected piece steady) system then record { moment = max piece.moment system; steady = max piece.steady steady; apart = None }
    else record {
      moment = told_apart piece steady system;
      steady = max piece.steady steady;
      apart = since_when piece.apart (max piece.steady steady);
    }
