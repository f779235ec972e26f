-- Counts that stay at their greatest value (own).
use Rattle.std.specs.Prelude.{ℕ, ◌+◌, min}

abbrev pub sum_of : ℕ → ℕ → ℕ
sum_of count other = min (count + other) 0xFFFF_FFFF_FFFF_FFFF
