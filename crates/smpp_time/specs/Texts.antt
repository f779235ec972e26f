-- Times as texts of 16 characters, YYMMDDhhmmsstnnp (SMPP 3.4, 7.1.1). Years are those from 2000 to 2099 (own).
use Rattle.std.specs.Prelude.{ℕ, ◌+◌, ◌-◌, ◌*◌, ◌/◌, ◌%◌, Bool, ◌&&◌, ◌||◌, ◌==◌, nat_le, nat_lt, List, [], ◌∷◌, ◌++◌, length, take}
use Rattle.std.specs.Prelude.{get_or, Option, Some, None, Result, Ok, Err, codes, if◌then◌else◌}
use Rattle.std.specs.Str.{all_ascii_digits}
use Rattle.smpp_time.specs.Calendar.{Date, is_date, day_number, date_of, months_later}
use Rattle.smpp_time.specs.declared.fault.TimeFault.{TimeFault}
use Rattle.smpp_time.specs.declared.fault.TimeFault.TheVariants.{Shape, Field, Range}

-- ---- the parts of a text

-- the number of the digit at a place, and of the two from a place on
abbrev pub digit_at : List ℕ → ℕ → ℕ
digit_at text place = get_or text place 0 - 48

abbrev pub number_at : List ℕ → ℕ → ℕ
number_at text place = 10 * digit_at text place + digit_at text (place + 1)

-- p, the last: + for a local time that is ahead of UTC, - for one behind it, R for a time that is relative to now
abbrev pub mark_in : List ℕ → ℕ
mark_in text = get_or text 15 0

abbrev pub is_mark : ℕ → Bool
is_mark mark = (mark == 43) || (mark == 45) || (mark == 82)

-- fifteen digits and a mark
abbrev pub is_shaped : List ℕ → Bool
is_shaped text = (length text == 16) && all_ascii_digits (take 15 text) && is_mark (mark_in text)

-- t, tenths of a second, and nn, quarters of an hour
abbrev pub tenths_in : List ℕ → ℕ
tenths_in text = digit_at text 12

abbrev pub quarters_in : List ℕ → ℕ
quarters_in text = number_at text 13

-- hh, mm and ss in seconds
abbrev pub clock_in : List ℕ → ℕ
clock_in text = 3600 * number_at text 6 + 60 * number_at text 8 + number_at text 10

-- ---- an absolute time

abbrev pub date_in : List ℕ → Date
date_in text = record { year = 2000 + number_at text 0; month = number_at text 2; day = number_at text 4 }

-- a time of the day, at most 48 quarters of an hour from UTC
abbrev pub is_clock : List ℕ → Bool
is_clock text = nat_lt (number_at text 6) 24 && nat_lt (number_at text 8) 60 && nat_lt (number_at text 10) 60 && nat_le (quarters_in text) 48

-- and a date of the calendar
abbrev pub is_real : List ℕ → Bool
is_real text = is_clock text && is_date (date_in text)

-- its seconds in local time, and in UTC; the tenths are dropped (own)
abbrev pub local_seconds : List ℕ → ℕ
local_seconds text = 86400 * day_number (date_in text) + clock_in text

abbrev pub utc_seconds : ℕ → List ℕ → ℕ
utc_seconds local text = if mark_in text == 43 then local - 900 * quarters_in text else local + 900 * quarters_in text

-- ---- a relative time

-- years and months from the date of now, whose time of day is kept; then days, hours, minutes and seconds (own)
abbrev pub relative_seconds : List ℕ → ℕ → Date → ℕ
relative_seconds text now today =
    86400 * (day_number (months_later today (12 * number_at text 0 + number_at text 2)) + number_at text 4) + now % 86400 + clock_in text

-- it has no tenths and no difference from UTC
abbrev pub is_plain : List ℕ → Bool
is_plain text = (tenths_in text == 0) && (quarters_in text == 0)

-- ---- what a text says

-- a moment from the start of 2000 to the end of 2099 (own)
abbrev pub moment_of : ℕ → Result (Option ℕ) TimeFault
moment_of seconds = if nat_le 946684800 seconds && nat_le seconds 4102444799 then Ok (Some seconds) else Err Range

abbrev pub said_of_relative : List ℕ → ℕ → Date → Result (Option ℕ) TimeFault
said_of_relative text now today = if is_plain text then moment_of (relative_seconds text now today) else Err Field

abbrev pub said_of_absolute : List ℕ → Result (Option ℕ) TimeFault
said_of_absolute text = if is_real text then moment_of (utc_seconds (local_seconds text) text) else Err Field

abbrev pub said_of_shaped : List ℕ → ℕ → Date → Result (Option ℕ) TimeFault
said_of_shaped text now today = if mark_in text == 82 then said_of_relative text now today else said_of_absolute text

-- an empty text names no time; of several faults the first of Shape, Field and Range is told
abbrev pub said_of : List ℕ → ℕ → Date → Result (Option ℕ) TimeFault
said_of [] now today = Ok None
said_of (first ∷ rest) now today = if is_shaped (first ∷ rest) then said_of_shaped (first ∷ rest) now today else Err Shape

-- what a text says to who reads it at a moment: the moment that it names, none, or a fault
abbrev pub time_said : List ℕ → ℕ → Result (Option ℕ) TimeFault
time_said text now = said_of text now (date_of (now / 86400))

-- ---- how a moment is written

-- two digits
abbrev pub two_digits : ℕ → List ℕ
two_digits number = (48 + number / 10) ∷ (48 + number % 10) ∷ []

-- in UTC
abbrev pub text_of : Date → ℕ → List ℕ
text_of date clock =
    two_digits (date.year - 2000) ++ two_digits date.month ++ two_digits date.day
    ++ two_digits (clock / 3600) ++ two_digits (clock / 60 % 60) ++ two_digits (clock % 60) ++ codes "000+"

abbrev pub time_text : ℕ → List ℕ
time_text moment = text_of (date_of (moment / 86400)) (moment % 86400)
