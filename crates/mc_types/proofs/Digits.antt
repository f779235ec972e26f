-- Decimal digits, and the number that they write.
use Rattle.std.proofs.Common.{◌≡◌, ℕ, ◌+◌, ◌-◌, ◌*◌, ◌/◌, ◌%◌, ◌^◌, ◌<◌, ◌≤◌, List, [], ◌∷◌, ◌++◌, length, get_or, take, drop, set, zero}
use Rattle.std.proofs.Common.{suc, true, ◌∙◌, refl, sym, arith, rules, append_assoc, add-one, pow-suc, lt_of_not-le}
use Rattle.std.proofs.Math.Nat.{one-le-pow}
use Rattle.std.specs.Fmt.{decimal}
use Rattle.std.specs.List.{list_all}
use Rattle.std.specs.Char.{is_ascii_digit}
use Rattle.std.specs.Str.Parse.{digits_value}
use Rattle.std.proofs.lemmas.Bool.{and_parts, eqb-true}
use Rattle.std.proofs.lemmas.List.{drop-set}
use Rattle.std.proofs.lemmas.Str.{digit_value_digit}
use Rattle.std.proofs.lemmas.Str.Parse.{IsNumeralModel, numerals_by_value, digits_value_short, digits_value-take-le, digit_at}
use Rattle.std.proofs.lemmas.Int.Digits.{digits_value_more}
use Rattle.std.proofs.lemmas.Fmt.{decimal_step, decimal_digit, digits_decimal, digits_value-decimal, decimal-digits_value, length-decimal-le}
use Rattle.mc_types.specs.Texts.{is_ten_digits}

pub numerals : IsNumeralModel (λ text. list_all is_ascii_digit text ≡ true) (digits_value 10)
numerals = numerals_by_value _ (search rules)

-- ---- reading ten digits

pub record IsTenDigits (text : List ℕ) : Type 0 where
  pub digits : list_all is_ascii_digit text ≡ true
  pub ten : length text ≡ 10

pub ten_digits : (text : List ℕ) → is_ten_digits text ≡ true → IsTenDigits text
ten_digits text are =
    let parts = and_parts _ _ are in record { digits = parts.1; ten = eqb-true (length text) 10 parts.0 }

-- one more digit of a text of ten
pub record IsNextDigit (text : List ℕ) (place digit : ℕ) : Type 0 where
  pub least : 48 ≤ digit
  pub most : digit ≤ 57
  pub value : digits_value 10 (take (place + 1) text) ≡ digits_value 10 (take place text) * 10 + (digit - 48)
  pub fits : digits_value 10 (take (place + 1) text) < 10000000000

pub next_digit : (text : List ℕ) (place : ℕ) → is_ten_digits text ≡ true → place < length text → IsNextDigit text place (get_or text place 0)
next_digit text place are below =
    let known = ten_digits text are in
    let digit = digit_at text place (numerals.to text known.digits) below in
    let value = digits_value_more 10 text place below in
    record {
      least = omega arith;
      most = omega arith;
      value = omega (arith, value, digit_value_digit (get_or text place 0) digit);
      fits = omega (arith, digits_value-take-le 10 text (place + 1) (omega arith), digits_value_short numerals text 10 known.digits (omega arith));
    }

-- ---- writing digits from the last

-- so many last digits of a number, zeros in front among them
pub last_digits : ℕ → ℕ → List ℕ
last_digits zero number = []
last_digits (suc count) number = last_digits count (number / 10) ++ (48 + number % 10) ∷ []

-- a text that has all of them is they
pub last_digits-none : (count number : ℕ) (text : List ℕ) → count ≤ 0 → last_digits count number ++ drop count text ≡ text
unfolding last_digits
last_digits-none zero number text none = refl
last_digits-none (suc count) number text none = absurd (omega arith)

last_digits-set : (count number : ℕ) (text : List ℕ) → count < length text →
    last_digits count (number / 10) ++ drop count (set text count (48 + number % 10)) ≡ last_digits (count + 1) number ++ drop (count + 1) text
unfolding last_digits
last_digits-set count number text below =
    rw (drop-set text count (48 + number % 10) below, add-one)
    (sym (append_assoc (last_digits count (number / 10)) ((48 + number % 10) ∷ []) (drop (suc count) text)))

-- one more of them is written
pub last_digits-more : (place number : ℕ) (text whole : List ℕ) → 0 < place → place ≤ length text →
    last_digits place number ++ drop place text ≡ whole →
    last_digits (place - 1) (number / 10) ++ drop (place - 1) (set text (place - 1) (48 + number % 10)) ≡ whole
last_digits-more place number text whole some within before =
    let same : place - 1 + 1 ≡ place = omega arith in
    rw same at (last_digits-set (place - 1) number text (omega arith)) ∙ before

-- of a number of so many digits they are all
pub last_digits-decimal : (count number : ℕ) → 10 ^ count ≤ number → number < 10 ^ (suc count) → number < 2 ^ 64 →
    last_digits (suc count) number ≡ decimal number
unfolding last_digits
last_digits-decimal zero number low high fits =
    let same : number % 10 ≡ number = omega arith in rw same (sym (decimal_digit number (omega arith)))
last_digits-decimal (suc count) number low high fits =
    let front = last_digits-decimal count (number / 10) (omega (arith, pow-suc 10 count)) (omega (arith, pow-suc 10 (suc count))) (omega arith) in
    rw front (sym (decimal_step number (omega (arith, pow-suc 10 count, one-le-pow count 10)) fits))

-- ---- ten digits and their number

-- with no zero in front they are the text of their number
pub spelled : (text : List ℕ) → is_ten_digits text ≡ true → 1000000000 ≤ digits_value 10 text → text ≡ decimal (digits_value 10 text)
spelled [] are high = absurd (omega (arith, (ten_digits [] are).ten))
spelled (first ∷ others) are high =
    let known = ten_digits (first ∷ others) are in
    let digits = and_parts (is_ascii_digit first) _ known.digits in
    let short = digits_value_short numerals (first ∷ others) 10 known.digits (omega arith) in
    let behind = digits_value_short numerals others 9 digits.1 (omega arith) in
    let no_zero : first ≡ 48 → ⊥ = λ zero_first.
    let same : digits_value 10 (first ∷ others) ≡ digits_value 10 others = rw zero_first refl in omega arith in
    sym (decimal-digits_value numerals (first ∷ others) known.digits (omega arith) (λ zero_first. absurd (no_zero zero_first)) (omega arith))

-- the text of a number of ten digits
pub ten_digits-decimal : (number : ℕ) → 1000000000 ≤ number → number < 10000000000 → is_ten_digits (decimal number) ≡ true
ten_digits-decimal number low high =
    let digits = digits_decimal numerals number (omega arith) in
    let most = length-decimal-le 10 number (omega arith) (omega arith) (omega arith) in
    let value = digits_value-decimal numerals number (omega arith) in
    let least : 9 < length (decimal number) = lt_of_not-le (λ few. omega (arith, digits_value_short numerals (decimal number) 9 digits few)) in
    let ten : length (decimal number) ≡ 10 = omega arith in
    rw (ten, digits) refl
