-- Dates of `jiff_core` from 1970 on, and their days.
use Rattle.std.proofs.Common.{◌≡◌, ℕ, ◌≤◌, ◌<◌, refl, sym, ap, subst, ◌∙◌, arith, ◌^◌, to_z, of_z, ℤ, pos, negsuc, ◌≤ℤ◌, ◌<ℤ◌, unsigned_abs}
use Rattle.std.proofs.lemmas.Int.{by_lt_z}
use Rattle.jiff_core.specs.declared.civil.date.Date.{Date as Civil}
use Rattle.jiff_core.specs.Calendar.{days_from_civil, day_count, IsCivilDate, days_in_month as civil_month}
use Rattle.jiff_core.specs.Date.{epoch_day}
use Rattle.jiff_core.proofs.SignedLemmas.{signed_arith, back_small}
use Rattle.std.specs.Int.{Width}
use mir.Val.{hbits}
use Rattle.jiff_core.proofs.DateLemmas.{civil}
use Rattle.jiff_core.proofs.CalendarLemmas.{days_from_civil-day_count, day_count-lt_year}
use Rattle.smpp_time.specs.Calendar.{days_of_years, days_of_months, day_number, IsDateOf}
use Rattle.smpp_time.specs.Dates.{plain_date}
use Rattle.smpp_time.proofs.Days.{day_same}

-- a year from 1970 on is no negative number
pub pos_abs : (z : ℤ) → pos 1970 ≤ℤ z → z ≡ pos (unsigned_abs z)
pos_abs (pos n) late = refl
pos_abs (negsuc n) late = absurd (omega (arith, signed_arith))

pub abs_late : (z : ℤ) → pos 1970 ≤ℤ z → 1970 ≤ unsigned_abs z
abs_late (pos n) late = omega (arith, signed_arith)
abs_late (negsuc n) late = absurd (omega (arith, signed_arith))

-- a number that a signed type holds comes back from its bits
pub back : (w : Width) (z : ℤ) (n : ℕ) → z ≡ pos n → n < 2 ^ hbits w → to_z w (of_z w z) ≡ pos n
back w z n e fits = rw e (back_small w (pos n) fits)

-- the day number of a date is that of `jiff_core`
pub epoch_same : (d : Civil) → pos 1970 ≤ℤ d.year → epoch_day d ≡ pos (day_number (plain_date d))
epoch_same d late =
    ap (λ y. days_from_civil y d.month d.day) (pos_abs d.year late) ∙ day_same (unsigned_abs d.year) d.month d.day (abs_late d.year late) d.day_in.0

-- a date of an earlier year has a smaller day number than any of a later one
pub earlier_year : (d : Civil) (year month day : ℕ) → 1 ≤ day → d.year <ℤ pos year → epoch_day d <ℤ days_from_civil (pos year) month day
earlier_year d year month day first before =
    let less : day_count d.year d.month d.day < day_count (pos year) month day = day_count-lt_year d.year d.month d.day (pos year) month day
    (civil d) first before in
    omega (arith, signed_arith, days_from_civil-day_count d.year d.month d.day, days_from_civil-day_count (pos year) month day, less)

-- and of a later one a greater than any date of an earlier one
pub later_year : (year month day : ℕ) (d : Civil) → pos year <ℤ d.year → IsCivilDate (pos year) month day → days_from_civil (pos year) month day <ℤ epoch_day d
later_year year month day d after is =
    let less : day_count (pos year) month day < day_count d.year d.month d.day = day_count-lt_year
    (pos year) month day d.year d.month d.day is d.day_in.0 after in
    omega (arith, signed_arith, days_from_civil-day_count d.year d.month d.day, days_from_civil-day_count (pos year) month day, less)

-- a day from the epoch on is in 1970 or later
pub from_1970 : (d : Civil) (day : ℕ) → epoch_day d ≡ pos day → pos 1970 ≤ℤ d.year
unfolding days_of_years days_of_months
from_1970 d day e =
    by_lt_z d.year (pos 1970) (λ before. absurd (let less = earlier_year d 1970 1 1 (omega arith) before in let zero_at : days_from_civil
    (pos 1970) 1 1 ≡ pos 0 = day_same 1970 1 1 (omega arith) (omega arith) in omega (arith, signed_arith, less, zero_at, e)))
    (λ late. late)

-- the date of a day
pub is_date_of : (d : Civil) (day : ℕ) → epoch_day d ≡ pos day → IsDateOf day (plain_date d)
is_date_of d day e =
    let late = from_1970 d day e in
    record {
      year = abs_late d.year late;
      least_month = d.month_in.0;
      most_month = d.month_in.1;
      least_day = d.day_in.0;
      most_day = subst (λ y. d.day ≤ civil_month y d.month) (pos_abs d.year late) d.day_in.1;
      number = sym (ap unsigned_abs (epoch_same d late)) ∙ ap unsigned_abs e;
    }

-- ---- years that a day can be in

last_of_2099 : IsCivilDate (pos 2099) 12 31
last_of_2099 = ((omega (arith, signed_arith), omega (arith, signed_arith)), (omega arith, omega arith), (omega arith, omega arith))

first_of_2500 : IsCivilDate (pos 2500) 1 1
first_of_2500 = ((omega (arith, signed_arith), omega (arith, signed_arith)), (omega arith, omega arith), (omega arith, omega arith))

day_of_2000 : days_from_civil (pos 2000) 1 1 ≡ pos 10957
unfolding days_of_years days_of_months
day_of_2000 = day_same 2000 1 1 (omega arith) (omega arith)

day_of_2099 : days_from_civil (pos 2099) 12 31 ≡ pos 47481
unfolding days_of_years days_of_months
day_of_2099 = day_same 2099 12 31 (omega arith) (omega arith)

day_of_2500 : days_from_civil (pos 2500) 1 1 ≡ pos 193579
unfolding days_of_years days_of_months
day_of_2500 = day_same 2500 1 1 (omega arith) (omega arith)

pub up_to_2500 : (d : Civil) (day : ℕ) → epoch_day d ≡ pos day → day ≤ 100000 → d.year ≤ℤ pos 2500
up_to_2500 d day e most =
    by_lt_z (pos 2500) d.year (λ after. absurd (let less = later_year 2500 1 1 d after first_of_2500 in
    omega (arith, signed_arith, less, day_of_2500, e, most))) (λ within. within)

year_least : (z : ℤ) → pos 2000 ≤ℤ z → 2000 ≤ unsigned_abs z
year_least (pos n) late = omega (arith, signed_arith)
year_least (negsuc n) late = absurd (omega (arith, signed_arith))

year_most : (z : ℤ) → pos 1970 ≤ℤ z → z ≤ℤ pos 2099 → unsigned_abs z ≤ 2099
year_most (pos n) late within = omega (arith, signed_arith)
year_most (negsuc n) late within = absurd (omega (arith, signed_arith))

pub from_2000 : (d : Civil) (day : ℕ) → epoch_day d ≡ pos day → 10957 ≤ day → 2000 ≤ (plain_date d).year
from_2000 d day e least =
    year_least d.year
    (by_lt_z d.year (pos 2000) (λ before. absurd (let less = earlier_year d 2000 1 1 (omega arith) before in
    omega (arith, signed_arith, less, day_of_2000, e, least))) (λ within. within))

pub up_to_2099 : (d : Civil) (day : ℕ) → epoch_day d ≡ pos day → day ≤ 47481 → (plain_date d).year ≤ 2099
up_to_2099 d day e most =
    year_most d.year (from_1970 d day e)
    (by_lt_z (pos 2099) d.year (λ after. absurd (let less = later_year 2099 12 31 d after last_of_2099 in
    omega (arith, signed_arith, less, day_of_2099, e, most))) (λ within. within))
