-- A moment by ISO 8601, in UTC: as 2026-11-29T15:30:08.123Z (own).
use Rattle.std.specs.Prelude.{ℕ, ◌+◌, ◌/◌, ◌%◌, List, ◌∷◌, ◌++◌, codes, drop, max, min, take}
use Rattle.smpp_time.specs.Texts.{time_text, two_digits}

-- the two characters from a place on
abbrev pub pair_at : ℕ → List ℕ → List ℕ
pair_at place text = take 2 (drop place text)

-- YYMMDDhhmmss, behind its century and with what stands between
abbrev pub spaced : List ℕ → List ℕ
spaced text =
    codes "20" ++ pair_at 0 text ++ codes "-" ++ pair_at 2 text ++ codes "-" ++ pair_at 4 text ++ codes "T"
    ++ pair_at 6 text ++ codes ":" ++ pair_at 8 text ++ codes ":" ++ pair_at 10 text

abbrev pub three_digits : ℕ → List ℕ
three_digits number = (48 + number / 100) ∷ two_digits (number % 100)

-- so many milliseconds since 1970; the first or the last second of the years from 2000 to 2099, if it is before or behind them
abbrev pub stamp_of : ℕ → List ℕ
stamp_of milliseconds =
    spaced (time_text (min (max (milliseconds / 1000) 946684800) 4102444799)) ++ codes "." ++ three_digits (milliseconds % 1000) ++ codes "Z"
