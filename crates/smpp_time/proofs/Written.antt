-- What is written is read.
use Rattle.std.proofs.Common.{◌≡◌, ℕ, ◌+◌, ◌-◌, ◌*◌, ◌/◌, ◌%◌, ◌<◌, ◌≤◌, true, List, ◌++◌, Some, Ok, refl, sym, ap, ◌∙◌, arith}
use Rattle.std.specs.Prelude.{codes, All, length}
use Rattle.std.specs.List.{AllByRecursion}
use Rattle.std.proofs.lemmas.List.Elements.{All-from_recursion}
use Rattle.std.specs.Char.{is_ascii_digit}
use Rattle.std.proofs.lemmas.Bool.{lt-ltb}
use Rattle.std.proofs.lemmas.Bool.Decides.{nat_tests}
use Rattle.mc_model.specs.message.Ids.{IsMoment}
use Rattle.smpp_time.specs.Calendar.{Date, IsDateOf, is_date, day_number, date_at, date_of, days_in_month}
use Rattle.smpp_time.specs.Texts.{two_digits, is_shaped, moment_of, said_of, time_said, time_text}
use Rattle.smpp_time.proofs.Texts.{said_absolute}
use Rattle.smpp_time.proofs.Years.{from_2000, to_2099, is_date_of}

-- six numbers of two digits, and the end of a time in UTC
abbrev written : ℕ → ℕ → ℕ → ℕ → ℕ → ℕ → List ℕ
written a b c d e f = two_digits a ++ two_digits b ++ two_digits c ++ two_digits d ++ two_digits e ++ two_digits f ++ codes "000+"

digit : (k : ℕ) → k ≤ 9 → is_ascii_digit (48 + k) ≡ true
digit k h = grind (arith, nat_tests)

tens : (n : ℕ) → n < 100 → is_ascii_digit (48 + n / 10) ≡ true
tens n h = digit (n / 10) (omega arith)

units : (n : ℕ) → is_ascii_digit (48 + n % 10) ≡ true
units n = digit (n % 10) (omega arith)

none_less : (n : ℕ) → n - 0 ≡ n
none_less n = omega arith

two : (n : ℕ) → 10 * (48 + n / 10 - 48) + (48 + n % 10 - 48) ≡ n
two n = omega arith

shaped : (a b c d e f : ℕ) → a < 100 → b < 100 → c < 100 → d < 100 → e < 100 → f < 100 → is_shaped (written a b c d e f) ≡ true
shaped a b c d e f ha hb hc hd he hf =
    rw (tens a ha, units a, tens b hb, units b, tens c hc, units c, tens d hd, units d, tens e he, units e, tens f hf, units f) refl

date_is : (day : ℕ) (date : Date) → IsDateOf day date → is_date date ≡ true
date_is day date is = grind (arith, nat_tests)

-- the text of a date and a time of the day names their seconds
said : (year month day h m s now : ℕ) (today : Date) → year < 100 → month < 100 → day < 100 → h < 24 → m < 60 → s < 60 →
    is_date (date_at (2000 + year) month day) ≡ true
    → said_of (written year month day h m s) now today ≡ moment_of (86400 * day_number (date_at (2000 + year) month day) + (3600 * h + 60 * m + s))
said year month day h m s now today hy hmo hd hh hm hs is =
    said_absolute (written year month day h m s) now today (shaped year month day h m s hy hmo hd (omega arith) (omega arith) (omega arith)) (λ e. absurd cc)
    ∙ rw (two year, two month, two day, two h, two m, two s, lt-ltb h 24 hh, lt-ltb m 60 hm, lt-ltb s 60 hs, is, none_less) refl

-- ---- the text of a moment

month_most : (year month : ℕ) → days_in_month year month ≤ 31
month_most year month = grind arith

moment_said : (seconds : ℕ) → IsMoment seconds → moment_of seconds ≡ Ok (Some seconds)
moment_said seconds is = grind (arith, nat_tests)

-- what is written is read, at any moment
pub written_said : (moment now : ℕ) → IsMoment moment → time_said (time_text moment) now ≡ Ok (Some moment)
written_said moment now is =
    let today = date_of (now / 86400) in
    let d = date_of (moment / 86400) in
    let is_today = is_date_of (moment / 86400) in
    let clock = moment % 86400 in
    let least : 2000 ≤ d.year = from_2000 (moment / 86400) d is_today (omega (arith, is)) in
    let most : d.year ≤ 2099 = to_2099 (moment / 86400) d is_today (omega (arith, is)) in
    let year : 2000 + (d.year - 2000) ≡ d.year = omega (arith, least) in
    let real : is_date (date_at (2000 + (d.year - 2000)) d.month d.day) ≡ true = ap (λ y. is_date (date_at y d.month d.day)) year ∙ date_is
    (moment / 86400) d is_today in
    let days : day_number (date_at (2000 + (d.year - 2000)) d.month d.day) ≡ moment / 86400 = ap
    (λ y. day_number (date_at y d.month d.day)) year ∙ is_today.number in
    let all : 86400 * day_number (date_at (2000 + (d.year - 2000)) d.month d.day) +
    (3600 * (clock / 3600) + 60 * (clock / 60 % 60) + clock % 60) ≡ moment = omega (arith, days) in
    said (d.year - 2000) d.month d.day (clock / 3600) (clock / 60 % 60) (clock % 60) now today (omega (arith, least, most))
    (omega (arith, is_today.most_month)) (omega (arith, is_today.most_day, month_most d.year d.month)) (omega arith) (omega arith)
    (omega arith) real
    ∙ ap moment_of all ∙ moment_said moment is

pub one_moment : (one other : ℕ) → IsMoment one → IsMoment other → time_text one ≡ time_text other → one ≡ other
one_moment one other is_one is_other e =
    let same = sym (written_said one one is_one) ∙ ap (λ t. time_said t one) e ∙ written_said other one is_other in
    cc

-- no octet of a text is zero
digits_above : (n : ℕ) → 0 < 48 + n
digits_above n = omega arith

all_above : (a b c d e f : ℕ) → AllByRecursion (λ octet. 0 < octet) (written a b c d e f)
all_above a b c d e f =
    (digits_above _, (digits_above _, (digits_above _, (digits_above _, (digits_above _, (digits_above _, (digits_above _, (digits_above _, (digits_above _, (digits_above _, (digits_above _, (digits_above _, (omega arith, (omega arith, (omega arith, (omega arith, tt))))))))))))))))

no_zero : (moment : ℕ) → All (λ octet. 0 < octet) (time_text moment)
no_zero moment =
    let d = date_of (moment / 86400) in
    let clock = moment % 86400 in
    All-from_recursion (λ octet. 0 < octet) (time_text moment) (all_above (d.year - 2000) d.month d.day (clock / 3600) (clock / 60 % 60) (clock % 60))

pub fits_field : (moment : ℕ) → (length (time_text moment) ≡ 16) × All (λ octet. 0 < octet) (time_text moment)
fits_field moment = (refl, no_zero moment)
