-- What contracts see of a date of `jiff_core`.
use Rattle.std.specs.Prelude.{◌≡◌, Bool, true, false, Option, Some, None, ◌≤ℤ◌, pos, unsigned_abs}
use Rattle.jiff_core.specs.declared.civil.date.Date.{Date as Civil}
use Rattle.smpp_time.specs.Calendar.{Date}

abbrev pub plain_date : Civil → Date
plain_date civil = record { year = unsigned_abs civil.year; month = civil.month; day = civil.day }

-- the date of these parts, if the calendar has it
abbrev pub IsDateIf : Bool → Date → Option Civil → Type 0
IsDateIf is_real date None = is_real ≡ false
IsDateIf is_real date (Some civil) = (is_real ≡ true) × (plain_date civil ≡ date) × (pos 1970 ≤ℤ civil.year)
