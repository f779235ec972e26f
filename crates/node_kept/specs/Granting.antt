-- Which message comes next, of those of which something holds (own).
use Rattle.std.specs.Prelude.{ℕ, suc, Option, Some, None}
use Rattle.waiting_requests.specs.Numbers.{IsLeastFrom}

-- the number behind an id, or the first of all
abbrev pub number_behind : Option ℕ → ℕ
number_behind None = 0
number_behind (Some id) = suc id

-- of some ids this is the least above one, or the least of all; none if there is none
abbrev pub IsLeastAbove : Option ℕ → (ℕ → Type 0) → Option ℕ → Type 0
IsLeastAbove after IsOne least = IsLeastFrom (number_behind after) IsOne least
