-- The days of `jiff_core` are those of the calendar here.
use Rattle.std.proofs.Common.{◌≡◌, ℕ, zero, suc, zero-add, add-zero, add_assoc, ◌+◌, ◌-◌, ◌≤◌, refl, sym, ap, ◌∙◌, arith, pos, ◌+ℤ◌, ◌-ℤ◌, unsigned_abs}
use Rattle.jiff_core.specs.Calendar.{days_from_civil, day_count, days_of_years as civil_years, days_of_months as civil_months, days_in_year as civil_year}
use Rattle.jiff_core.proofs.SignedLemmas.{signed_arith}
use Rattle.smpp_time.specs.Calendar.{days_of_years, days_of_months, days_in_year, days_in_month, date_at, day_number}

-- years are counted from 1970 here, and from -10000 there
year_same : (n base : ℕ) → base ≡ 11970 → pos (n + base) -ℤ pos 10000 ≡ pos (1970 + n)
year_same n base at = omega (arith, signed_arith)

next_base : (n base : ℕ) → suc n + base ≡ suc (n + base)
next_base n base = omega arith

years_from : (n base : ℕ) → base ≡ 11970 → civil_years (n + base) ≡ civil_years base + days_of_years n
unfolding civil_years days_of_years
years_from zero base at = rw (zero-add base) (sym (add-zero (civil_years base)))
years_from (suc n) base at =
    ap civil_years (next_base n base)
    ∙ ap (λ y. civil_years (n + base) + civil_year y) (year_same n base at)
    ∙ ap (λ days. days + days_in_year (1970 + n)) (years_from n base at)
    ∙ add_assoc (civil_years base) (days_of_years n) (days_in_year (1970 + n))

pub months_same : (year n : ℕ) → civil_months (pos year) n ≡ days_of_months year n
unfolding civil_months days_of_months
months_same year zero = refl
months_same year (suc n) = ap (λ days. days + days_in_month year (suc n)) (months_same year n)

-- ---- the day number of a date

year_from : (year base : ℕ) → base ≡ 11970 → 1970 ≤ year → unsigned_abs (pos year +ℤ pos 10000) ≡ (year - 1970) + base
year_from year base at late = omega (arith, signed_arith)

counted : (year month day base : ℕ) → base ≡ 11970 → 1970 ≤ year → 1 ≤ day →
    day_count (pos year) month day ≡ civil_years base + day_number (date_at year month day)
unfolding day_count
counted year month day base at late first =
    let years : civil_years (unsigned_abs (pos year +ℤ pos 10000)) ≡ civil_years base + days_of_years (year - 1970) =
    ap civil_years (year_from year base at late) ∙ years_from (year - 1970) base at in
    let months : civil_months (pos year) (month - 1) ≡ days_of_months year (month - 1) = months_same year (month - 1) in
    omega (arith, years, months, first)

counted_epoch : (base : ℕ) → base ≡ 11970 → day_count (pos 1970) 1 1 ≡ civil_years base
unfolding days_of_years days_of_months
counted_epoch base at = counted 1970 1 1 base at (omega arith) (omega arith) ∙ add-zero (civil_years base)

less : (a b n : ℕ) → a ≡ b + n → pos a -ℤ pos b ≡ pos n
less a b n e = omega (arith, signed_arith)

pub day_same : (year month day : ℕ) → 1970 ≤ year → 1 ≤ day → days_from_civil (pos year) month day ≡ pos (day_number (date_at year month day))
unfolding days_from_civil
day_same year month day late first =
    less (day_count (pos year) month day) (day_count (pos 1970) 1 1) (day_number (date_at year month day))
    (counted year month day 11970 refl late first ∙ ap (λ n. n + day_number (date_at year month day)) (sym (counted_epoch 11970 refl)))
