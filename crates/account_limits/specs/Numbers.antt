-- Numbers: in decimal, and their bits.
use Rattle.std.specs.Prelude.{ℕ, Bool, false, ◌&&◌, not, ◌==◌, nat_le, ◌+◌, ◌-◌, ◌*◌, ◌/◌, ◌%◌, ◌^◌, List, [], ◌∷◌, drop, Option, Some, None, if◌then◌else◌}
use Rattle.std.specs.List.{list_all}

abbrev pub is_digit : ℕ → Bool
is_digit octet = nat_le 48 octet && nat_le octet 57

-- the number that digits write behind those of another
abbrev pub number_behind : ℕ → List ℕ → ℕ
number_behind number [] = number
number_behind number (digit ∷ digits) = number_behind (number * 10 + (digit - 48)) digits

-- decimal digits, with no zero before others
abbrev pub is_number : List ℕ → Bool
is_number [] = false
is_number (only ∷ []) = list_all is_digit (only ∷ [])
is_number (first ∷ second ∷ others) = not (first == 48) && list_all is_digit (first ∷ second ∷ others)

-- the number of a text, if it is one of at most so much
abbrev pub number_in : ℕ → List ℕ → Option ℕ
number_in most text = if is_number text && nat_le (number_behind 0 text) most then Some (number_behind 0 text) else None

-- what stands behind a place of a text
abbrev pub behind : ℕ → List ℕ → List ℕ
behind place text = drop (place + 1) text

-- a number without so many of its last bits
abbrev pub first_bits : ℕ → ℕ → ℕ
first_bits number behind = number / 2 ^ behind

-- whether one of so many last bits is set
abbrev pub has_loose_bits : ℕ → ℕ → Bool
has_loose_bits number behind = not (number % 2 ^ behind == 0)
