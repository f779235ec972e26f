-- What a timepiece tells, beside the system's clock (own). All in milliseconds.
use Rattle.std.specs.Prelude.{◌≡◌, ◌⊎◌, ℕ, ◌+◌, ◌<◌, ◌≤◌, ◌/◌, Some}
use Rattle.connection_parts.specs.Tallies.{sum_of}
use Rattle.connection_parts.specs.Timepieces.{Timepiece, after, gone}

-- within five seconds of each other
abbrev pub AreNear : ℕ → ℕ → Type 0
AreNear one other = (one ≤ other + 5000) × (other ≤ one + 5000)

-- The system's clock has been apart since then, for less than ten minutes, and as much time has gone as the other clock says.
pub record IsLeft (old new : Timepiece) (steady : ℕ) : Type 0 where
  pub since : ℕ
  pub apart : new.apart ≡ Some since
  pub brief : new.steady < since + 600000
  pub goes : new.moment ≡ sum_of old.moment (gone old steady)

-- The system's clock has been apart since then, for ten minutes or more, and is behind; half as much time has gone as the other clock says.
pub record IsAwaited (old new : Timepiece) (steady system : ℕ) : Type 0 where
  pub since : ℕ
  pub apart : new.apart ≡ Some since
  pub long : since + 600000 ≤ new.steady
  pub behind : system < new.moment + gone old steady
  pub goes : new.moment ≡ sum_of old.moment (gone old steady / 2)

-- What is told is near the system's clock, or that is left alone, or waited for.
abbrev pub TimeIsNearLeftOrAwaited : Type 0
TimeIsNearLeftOrAwaited =
    (old : Timepiece) (steady system : ℕ) → old.moment ≤ 0xFFFF_FFFF_FFFF_FFFF →
    AreNear (after old steady system).moment system
    ⊎ IsLeft old (after old steady system) steady
    ⊎ IsAwaited old (after old steady system) steady system
