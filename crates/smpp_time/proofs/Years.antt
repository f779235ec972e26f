-- A later date has a greater day number, so a day has one date.
use Rattle.std.proofs.Common.{◌≡◌, ◌↔◌, ℕ, zero, suc, ◌+◌, ◌-◌, ◌≤◌, ◌<◌, inl, inr, refl, sym, ap, subst, ◌∙◌, arith, pos}
use Rattle.std.proofs.lemmas.Bool.{cases_order, cases_lt, lt-ltb, le-ltb}
use Rattle.jiff_core.specs.Calendar.{day_of_year}
use Rattle.jiff_core.proofs.CalendarLemmas.{day_of_year_before, days_of_months_all}
use Rattle.smpp_time.specs.Calendar.{days_of_years, days_of_months, days_in_year, Date, IsDateOf, date_at, date_of, next_date, days_in_month}
use Rattle.smpp_time.proofs.Days.{months_same}

years_more : (n k : ℕ) → days_of_years n ≤ days_of_years (k + n)
unfolding days_of_years
years_more n zero = let same : 0 + n ≡ n = omega arith in rw same (omega arith)
years_more n (suc k) = let next : suc k + n ≡ suc (k + n) = omega arith in rw next (omega (arith, years_more n k))

pub years_mono : (n m : ℕ) → n ≤ m → days_of_years n ≤ days_of_years m
years_mono n m h = let up : (m - n) + n ≡ m = omega arith in subst (λ k. days_of_years n ≤ days_of_years k) up (years_more n (m - n))

next_year : (n : ℕ) → days_of_years (suc n) ≡ days_of_years n + days_in_year (1970 + n)
unfolding days_of_years
next_year n = refl

-- the day of a date lies within its months, up to any later one
before_month : (day : ℕ) (d : Date) → IsDateOf day d → (later : ℕ) → d.month ≤ later → days_of_months d.year (d.month - 1) + d.day ≤ days_of_months d.year later
before_month day d is later h =
    let there : day_of_year (pos d.year) d.month d.day ≤ _ = day_of_year_before (pos d.year) d.month d.day later is.least_month is.most_day h in
    omega (arith, there, months_same d.year (d.month - 1), months_same d.year later)

within_year : (day : ℕ) (d : Date) → IsDateOf day d → days_of_months d.year (d.month - 1) + d.day ≤ days_in_year d.year
within_year day d is = omega (arith, before_month day d is 12 is.most_month, months_same d.year 12, days_of_months_all (pos d.year))

-- it is before the first day of any later year
pub before_year : (day : ℕ) (d : Date) → IsDateOf day d → (year : ℕ) → d.year < year → day < days_of_years (year - 1970)
before_year day d is year h =
    let here : 1970 + (d.year - 1970) ≡ d.year = omega (arith, is.year) in
    let next = next_year (d.year - 1970) ∙ ap (λ y. days_of_years (d.year - 1970) + days_in_year y) here in
    omega (arith, is.number, is.least_day, within_year day d is, next, years_mono (suc (d.year - 1970)) (year - 1970) (omega (arith, is.year, h)))

pub from_year : (day : ℕ) (d : Date) → IsDateOf day d → (year : ℕ) → year ≤ d.year → days_of_years (year - 1970) ≤ day
from_year day d is year h = omega (arith, is.number, years_mono (year - 1970) (d.year - 1970) (omega arith))

-- ---- one date a day

same_year : (day : ℕ) (a b : Date) → IsDateOf day a → IsDateOf day b → a.year < b.year → ⊥
same_year day a b ia ib h = omega (arith, before_year day a ia b.year h, from_year day b ib b.year (omega arith))

same_month : (day : ℕ) (a b : Date) → IsDateOf day a → IsDateOf day b → a.year ≡ b.year → a.month < b.month → ⊥
same_month day a b ia ib year h =
    let there = subst (λ y. days_of_months y (a.month - 1) + a.day ≤ days_of_months y (b.month - 1)) year (before_month day a ia (b.month - 1) (omega arith)) in
    let at = subst (λ y. days_of_years (y - 1970) + days_of_months y (a.month - 1) + (a.day - 1) ≡ day) year ia.number in
    omega (arith, there, at, ib.number, ia.least_day, ib.least_day)

one_year : (day : ℕ) (a b : Date) → IsDateOf day a → IsDateOf day b → a.year ≡ b.year
one_year day a b ia ib = elim (cases_order a.year b.year) [
  | inl same ↦ same
  | inr (inl less) ↦ absurd (same_year day a b ia ib less)
  | inr (inr more) ↦ absurd (same_year day b a ib ia more)
]

one_month : (day : ℕ) (a b : Date) → IsDateOf day a → IsDateOf day b → a.month ≡ b.month
one_month day a b ia ib =
    let year = one_year day a b ia ib in
    elim (cases_order a.month b.month) [
      | inl same ↦ same
      | inr (inl less) ↦ absurd (same_month day a b ia ib year less)
      | inr (inr more) ↦ absurd (same_month day b a ib ia (sym year) more)
    ]

pub one_date : (day : ℕ) (a b : Date) → IsDateOf day a → IsDateOf day b → a ≡ b
one_date day a b ia ib =
    let year = one_year day a b ia ib in
    let month = one_month day a b ia ib in
    let at : days_of_years (b.year - 1970) + days_of_months b.year (b.month - 1) + (a.day - 1) ≡ day =
    subst (λ m. days_of_years (b.year - 1970) + days_of_months b.year (m - 1) + (a.day - 1) ≡ day) month
    (subst (λ y. days_of_years (y - 1970) + days_of_months y (a.month - 1) + (a.day - 1) ≡ day) year ia.number) in
    let last : a.day ≡ b.day = omega (arith, at, ib.number, ia.least_day, ib.least_day) in
    λ i. date_at (year i) (month i) (last i)

-- ---- the date of each day

months_next : (year month : ℕ) → 1 ≤ month → days_of_months year month ≡ days_of_months year (month - 1) + days_in_month year month
unfolding days_of_months
months_next year zero least = absurd (omega arith)
months_next year (suc month) least = let back : suc month - 1 ≡ month = omega arith in rw back refl

months_all : (year : ℕ) → days_of_months year 12 ≡ days_in_year year
months_all year = omega (arith, months_same year 12, days_of_months_all (pos year))

month_least : (year month : ℕ) → 28 ≤ days_in_month year month
month_least year month = grind arith

next_day : (days : ℕ) (d : Date) → IsDateOf days d → d.day < days_in_month d.year d.month → IsDateOf (suc days) (date_at d.year d.month (d.day + 1))
next_day days d is h = record {
  year = is.year;
  least_month = is.least_month;
  most_month = is.most_month;
  least_day = omega arith;
  most_day = omega (arith, h);
  number = omega (arith, is.number, is.least_day);
}

next_month : (days : ℕ) (d : Date) → IsDateOf days d → days_in_month d.year d.month ≤ d.day → d.month < 12 →
    IsDateOf (suc days) (date_at d.year (d.month + 1) 1)
next_month days d is last h =
    let back : d.month + 1 - 1 ≡ d.month = omega arith in
    let months : days_of_months d.year (d.month + 1 - 1) ≡ days_of_months d.year d.month = ap (days_of_months d.year) back in
    record {
      year = is.year;
      least_month = omega arith;
      most_month = omega (arith, h);
      least_day = omega arith;
      most_day = omega (arith, month_least d.year (d.month + 1));
      number = omega (arith, is.number, is.least_day, is.most_day, last, months, months_next d.year d.month is.least_month);
    }

next_january : (days : ℕ) (d : Date) → IsDateOf days d → days_in_month d.year d.month ≤ d.day → 12 ≤ d.month → IsDateOf (suc days) (date_at (d.year + 1) 1 1)
unfolding days_of_months
next_january days d is last h =
    let here : 1970 + (d.year - 1970) ≡ d.year = omega (arith, is.year) in
    let years : days_of_years (suc (d.year - 1970)) ≡ days_of_years (d.year - 1970) + days_in_year d.year = next_year (d.year - 1970) ∙ ap
    (λ y. days_of_years (d.year - 1970) + days_in_year y) here in
    let later : d.year + 1 - 1970 ≡ suc (d.year - 1970) = omega (arith, is.year) in
    let up : days_of_years (d.year + 1 - 1970) ≡ days_of_years (suc (d.year - 1970)) = ap days_of_years later in
    let last_month : d.month ≡ 12 = omega (arith, is.most_month, h) in
    let december : days_of_months d.year d.month ≡ days_of_months d.year 12 = ap (days_of_months d.year) last_month in
    record {
      year = omega (arith, is.year);
      least_month = omega arith;
      most_month = omega arith;
      least_day = omega arith;
      most_day = omega (arith, month_least (d.year + 1) 1);
      number = omega (arith, is.number, is.least_day, is.most_day, last, years, up, december, months_all d.year, months_next d.year d.month is.least_month);
    }

next_is : (days : ℕ) (d : Date) → IsDateOf days d → IsDateOf (suc days) (next_date d)
next_is days d is = elim (cases_lt d.day (days_in_month d.year d.month)) [
  | inl before ↦ rw (lt-ltb d.day (days_in_month d.year d.month) before) (next_day days d is before)
  | inr last ↦ rw (le-ltb d.day (days_in_month d.year d.month) last)
      (elim (cases_lt d.month 12) [
        | inl earlier ↦ rw (lt-ltb d.month 12 earlier) (next_month days d is last earlier)
        | inr december ↦ rw (le-ltb d.month 12 december) (next_january days d is last december)
      ])
]

pub is_date_of : (days : ℕ) → IsDateOf days (date_of days)
unfolding date_of days_of_years days_of_months
is_date_of zero = record {
  year = omega arith;
  least_month = omega arith;
  most_month = omega arith;
  least_day = omega arith;
  most_day = omega arith;
  number = refl;
}
is_date_of (suc days) = next_is days (date_of days) (is_date_of days)

pub date_is_of : (day : ℕ) (date : Date) → (date ≡ date_of day) ↔ IsDateOf day date
date_is_of day date = (λ e. subst (IsDateOf day) (sym e) (is_date_of day), λ is. one_date day date (date_of day) is (is_date_of day))

-- ---- the years of moments

pub from_2000 : (day : ℕ) (d : Date) → IsDateOf day d → 10957 ≤ day → 2000 ≤ d.year
unfolding days_of_years
from_2000 day d is h = elim (cases_order d.year 2000) [
  | inl same ↦ omega (arith, same)
  | inr (inl less) ↦ absurd (omega (arith, before_year day d is 2000 less, h))
  | inr (inr more) ↦ omega (arith, more)
]

pub to_2099 : (day : ℕ) (d : Date) → IsDateOf day d → day ≤ 47481 → d.year ≤ 2099
unfolding days_of_years
to_2099 day d is h = elim (cases_order 2099 d.year) [
  | inl same ↦ omega (arith, same)
  | inr (inl less) ↦ absurd (omega (arith, from_year day d is 2100 (omega (arith, less)), h))
  | inr (inr more) ↦ omega (arith, more)
]
