-- The Gregorian calendar from 1970 on, by days.
use Rattle.std.specs.Prelude.{◌≡◌, ℕ, zero, suc, ◌+◌, ◌-◌, ◌*◌, ◌/◌, ◌%◌, ◌≤◌, Bool, not, ◌&&◌, ◌||◌, ◌==◌, nat_le, nat_lt, min, if◌then◌else◌}

-- every fourth year, but of the centuries only every fourth
abbrev pub is_leap : ℕ → Bool
is_leap year = (year % 4 == 0) && (not (year % 100 == 0) || (year % 400 == 0))

abbrev pub days_in_year : ℕ → ℕ
days_in_year year = if is_leap year then 366 else 365

-- thirty days have April, June, September and November
abbrev pub days_in_month : ℕ → ℕ → ℕ
days_in_month year month =
    if month == 2 then (if is_leap year then 29 else 28)
    else (if (month == 4) || (month == 6) || (month == 9) || (month == 11) then 30 else 31)

-- the days of so many years from 1970 on
unfoldable pub days_of_years : ℕ → ℕ
days_of_years zero = 0
days_of_years (suc years) = days_of_years years + days_in_year (1970 + years)

-- the days of so many months of a year
unfoldable pub days_of_months : ℕ → ℕ → ℕ
days_of_months year zero = 0
days_of_months year (suc months) = days_of_months year months + days_in_month year (suc months)

pub record Date : Type 0 where
  pub year : ℕ
  pub month : ℕ
  pub day : ℕ

abbrev pub date_at : ℕ → ℕ → ℕ → Date
date_at year month day = record { year = year; month = month; day = day }

-- the calendar has this date
abbrev pub is_date : Date → Bool
is_date date = nat_le 1 date.month && nat_le date.month 12 && nat_le 1 date.day && nat_le date.day (days_in_month date.year date.month)

-- the days from 1970-01-01 to a date
abbrev pub day_number : Date → ℕ
day_number date = days_of_years (date.year - 1970) + days_of_months date.year (date.month - 1) + (date.day - 1)

-- the date of a day by its number
pub record IsDateOf (day : ℕ) (date : Date) : Type 0 where
  pub year : 1970 ≤ date.year
  pub least_month : 1 ≤ date.month
  pub most_month : date.month ≤ 12
  pub least_day : 1 ≤ date.day
  pub most_day : date.day ≤ days_in_month date.year date.month
  pub number : day_number date ≡ day

-- the date of the day after a date
abbrev pub next_date : Date → Date
next_date date =
    if nat_lt date.day (days_in_month date.year date.month) then date_at date.year date.month (date.day + 1)
    else (if nat_lt date.month 12 then date_at date.year (date.month + 1) 1 else date_at (date.year + 1) 1 1)

-- the date so many days after 1970-01-01
unfoldable pub date_of : ℕ → Date
date_of zero = date_at 1970 1 1
date_of (suc days) = next_date (date_of days)

-- so many months later, on the same day, or on the month's last if it has fewer days
abbrev pub in_month : ℕ → ℕ → ℕ → Date
in_month year month day = date_at year month (min day (days_in_month year month))

abbrev pub months_later : Date → ℕ → Date
months_later date months =
    let sum = 12 * date.year + (date.month - 1) + months in
    in_month (sum / 12) (sum % 12 + 1) date.day
