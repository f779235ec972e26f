-- How many come in a second (own).
use Rattle.std.specs.Prelude.{ℕ, Bool, true, false, ◌&&◌, nat_le, nat_lt, ◌+◌, ◌-◌, if◌then◌else◌}
use Rattle.account_limits.specs.declared.pace.Pace.{Pace}

abbrev pub at_rest : Pace
at_rest = record { begun = 0; count = 0 }

-- whether the second in which some came runs at a moment: it is 1,000 milliseconds long
abbrev pub runs_at : ℕ → Pace → Bool
runs_at moment pace = nat_le pace.begun moment && nat_lt (moment - pace.begun) 1000

-- how many came in the second of a moment
abbrev pub came_at : ℕ → Pace → ℕ
came_at moment pace = if runs_at moment pace then pace.count else 0

-- with one more: the first begins a second
abbrev pub with_one : ℕ → Pace → Pace
with_one moment pace = record { begun = (if runs_at moment pace then pace.begun else moment); count = came_at moment pace + 1 }

-- one more, if it is let through
abbrev pub counted : Bool → ℕ → Pace → Pace
counted true moment pace = with_one moment pace
counted false moment pace = pace
