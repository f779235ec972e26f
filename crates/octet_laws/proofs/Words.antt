-- Octets that stand in no word, and a text that is split where its first word ends.
use Rattle.std.proofs.Common.{◌≡◌, ℕ, zero, suc, ◌<◌, ◌≤◌, ◌/◌, ◌%◌, Bool, true, false, ◌+◌, ◌*◌, List, [], ◌∷◌, ◌++◌, length, inl, inr, refl, sym}
use Rattle.std.proofs.Common.{ap, subst, ◌∙◌, arith}
use Rattle.std.specs.Prelude.{◌==◌, slice_index, Result, Ok, Err, if◌then◌else◌}
use Rattle.std.specs.Fmt.{decimal, digit_glyph, digits, digits_onto}
use Rattle.std.specs.List.{AllByRecursion, list_any}
use Rattle.std.proofs.lemmas.Bool.Decides.{nat_tests}
use Rattle.std.proofs.lemmas.Bool.{cases_lt, eqb-false, or_parts}
use Rattle.std.proofs.lemmas.List.{get_or_past}
use Rattle.octet_fields.proofs.Octets.{ok_is}
use Rattle.hex.specs.Hex.{decode_of, decode_pairs, encode_lower, encode_with, hex_digit_value, digit_or_error, lower_digits, pair_value, ◌>>=◌}
use Rattle.hex.specs.declared.error.FromHexError.{FromHexError}
use Rattle.hex.specs.declared.error.FromHexError.TheVariants.{OddLength}
use Rattle.hex.proofs.HexLemmas.{IsDigits-lower_digits}

-- ---- octets that a text has not

abbrev pub Lacks : ℕ → List ℕ → Type 0
Lacks octet text = AllByRecursion (λ other. other ≡ octet → ⊥) text

pub both_lack : (octet : ℕ) (front back : List ℕ) → Lacks octet front → Lacks octet back → Lacks octet (front ++ back)
both_lack octet [] back none also = also
both_lack octet (first ∷ front) back none also = (none.0, both_lack octet front back none.1 also)

-- so says a test
pub tests_lack : (octet : ℕ) (text : List ℕ) → list_any (λ other. other == octet) text ≡ false → Lacks octet text
tests_lack octet [] none = tt
tests_lack octet (first ∷ text) none =
    let parts = or_parts (first == octet) (list_any (λ other. other == octet) text) none in
    (λ same. absurd (eqb-false first octet parts.0 same), tests_lack octet text parts.1)

-- the digits of a number are no space, nothing below one
abbrev AreHigh : List ℕ → Type 0
AreHigh text = AllByRecursion (λ other. 33 ≤ other) text

high_lacks : (octet : ℕ) → octet < 33 → (text : List ℕ) → AreHigh text → Lacks octet text
high_lacks octet low [] high = tt
high_lacks octet low (first ∷ text) high =
    let least = high.0 in (λ same. absurd (omega (arith, same, least, low)), high_lacks octet low text high.1)

glyph_high : (digit : ℕ) → digit < 10 → 33 ≤ digit_glyph false digit
glyph_high digit below = grind (arith, nat_tests, below)

digits_high : (turns number : ℕ) (behind : List ℕ) → AreHigh behind → AreHigh (digits_onto turns 10 false number behind)
digits_high zero number behind high = high
digits_high (suc turns) number behind high = by_test (number / 10 == 0) (digits_high turns (number / 10))
  where
    here : 33 ≤ digit_glyph false (number % 10)
    here = glyph_high (number % 10) (omega arith)

    by_test : (last : Bool) → ((more : List ℕ) → AreHigh more → AreHigh (digits_onto turns 10 false (number / 10) more)) →
        AreHigh (if last then digit_glyph false (number % 10) ∷ behind
        else digits_onto turns 10 false (number / 10) (digit_glyph false (number % 10) ∷ behind))
    by_test true more = (here, high)
    by_test false more = more (digit_glyph false (number % 10) ∷ behind) (here, high)

pub decimal_lacks : (octet : ℕ) → octet < 33 → (number : ℕ) → Lacks octet (decimal number)
unfolding digits
decimal_lacks octet low number = high_lacks octet low (digits_onto 64 10 false number []) (digits_high 64 number [] tt)

-- ---- a text is split where its first word ends

pub record IsSplit (one other first second : List ℕ) : Type 0 where
  pub words : one ≡ other
  pub rests : first ≡ second

pub cons_first : (one other : ℕ) (first second : List ℕ) → one ∷ first ≡ other ∷ second → one ≡ other
cons_first one other first second is = cc

pub cons_rest : (one other : ℕ) (first second : List ℕ) → one ∷ first ≡ other ∷ second → first ≡ second
cons_rest one other first second is = cc

pub split : (end : ℕ) (one other first second : List ℕ) → Lacks end one → Lacks end other → one ++ end ∷ first ≡ other ++ end ∷ second →
    IsSplit one other first second
split end [] [] first second none also is = record { words = refl; rests = cons_rest end end first second is }
split end [] (octet ∷ other) first second none also is = absurd (also.0 (sym (cons_first end octet first (other ++ end ∷ second) is)))
split end (octet ∷ one) [] first second none also is = absurd (none.0 (cons_first octet end (one ++ end ∷ first) second is))
split end (octet ∷ one) (digit ∷ other) first second none also is =
    let rest = split end one other first second none.1 also.1 (cons_rest octet digit (one ++ end ∷ first) (other ++ end ∷ second) is) in
    record { words = λ i. cons_first octet digit (one ++ end ∷ first) (other ++ end ∷ second) is i ∷ rest.words i; rests = rest.rests }

-- ---- hex digits

beyond_digits : (place : ℕ) → 16 ≤ place → slice_index lower_digits place ≡ 0
beyond_digits place beyond = get_or_past lower_digits place 0 beyond

is_no_feed : (place : ℕ) → slice_index lower_digits place ≡ 10 → ⊥
is_no_feed place same = elim (cases_lt place 16) [
  | inl below ↦ (let value = sym (ap hex_digit_value same) ∙ IsDigits-lower_digits place below in cc)
  | inr beyond ↦ (let none = beyond_digits place beyond in omega (arith, same, none))
]

pub hex_lacks_feed : (octets : List ℕ) → Lacks 10 (encode_lower octets)
unfolding encode_with
hex_lacks_feed [] = tt
hex_lacks_feed (octet ∷ octets) = (is_no_feed (octet / 16), (is_no_feed (octet % 16), hex_lacks_feed octets))

then_ok : {A B : Type 0} (r : Result A FromHexError) (f : A → Result B FromHexError) (y : B) → (r >>= f) ≡ Ok y → (x : A) × (r ≡ Ok x) × (f x ≡ Ok y)
then_ok (Ok x) f y is = (x, refl, is)
then_ok (Err fault) f y is = absurd cc

one_ok : (r : Result ℕ FromHexError) (one other : ℕ) → r ≡ Ok one → r ≡ Ok other → one ≡ other
one_ok r one other is also = ok_is one other (sym is ∙ also)

-- octets are read of the front of these
pub record IsFrontRead (octets read : List ℕ) : Type 0 where
  pub rest : List ℕ
  pub is : octets ≡ read ++ rest

-- each octet that digits name was written so
pairs_back : (at : ℕ) (text more octets read : List ℕ) → text ++ more ≡ encode_lower octets → decode_pairs at text ≡ Ok read → IsFrontRead octets read
unfolding encode_with decode_pairs
pairs_back at [] more octets read same is = record { rest = octets; is = ap (λ (front : List ℕ). front ++ octets) (ok_is [] read is) }
pairs_back at (digit ∷ []) more octets read same is = absurd cc
pairs_back at (high ∷ low ∷ text) more [] read same is = absurd cc
pairs_back at (high ∷ low ∷ text) more (octet ∷ octets) read same is =
    let first_digit = slice_index lower_digits (octet / 16) in
    let last_digit = slice_index lower_digits (octet % 16) in
    let behind = cons_rest high first_digit (low ∷ (text ++ more)) (last_digit ∷ encode_lower octets) same in
    let highs = cons_first high first_digit (low ∷ (text ++ more)) (last_digit ∷ encode_lower octets) same in
    let lows = cons_first low last_digit (text ++ more) (encode_lower octets) behind in
    let reads : decode_pairs at (first_digit ∷ last_digit ∷ text) ≡ Ok read =
    subst (λ (named : List ℕ). decode_pairs at named ≡ Ok read) (λ i. highs i ∷ lows i ∷ text) is in
    elim (cases_lt octet 256) [
      | inl below ↦
          let above_half : octet / 16 < 16 = omega (arith, below) in
          let below_half : octet % 16 < 16 = omega arith in
          let first : pair_value first_digit last_digit at ≡ Ok (octet / 16 * 16 + octet % 16) =
          rw (
            ap (digit_or_error first_digit at) (IsDigits-lower_digits (octet / 16) above_half),
            ap (digit_or_error last_digit (at + 1)) (IsDigits-lower_digits (octet % 16) below_half),
          ) refl in
          let one = then_ok (pair_value first_digit last_digit at) _ read reads in
          let others = then_ok (decode_pairs (at + 2) text) _ read one.2 in
          let later = pairs_back (at + 2) text more octets others.0
          (cons_rest low last_digit (text ++ more) (encode_lower octets) behind) others.1 in
          let byte : one.0 ≡ octet / 16 * 16 + octet % 16 = one_ok (pair_value first_digit last_digit at) one.0 _ one.1 first in
          let whole : octet / 16 * 16 + octet % 16 ≡ octet = omega arith in
          record {
            rest = later.rest;
            is = subst (λ (front : List ℕ). octet ∷ octets ≡ front ++ later.rest) (ok_is (one.0 ∷ others.0) read others.2)
                (λ i. sym (byte ∙ whole) i ∷ later.is i);
          }
      | inr above ↦
          let none = beyond_digits (octet / 16) (omega (arith, above)) in
          let bad = ap (λ (digit : ℕ). decode_pairs at (digit ∷ last_digit ∷ text)) (sym none) ∙ reads in
          absurd cc
    ]

pub decoded : (text more octets read : List ℕ) → text ++ more ≡ encode_lower octets → decode_of text ≡ Ok read → IsFrontRead octets read
decoded text more octets read same is = by_test (length text % 2 == 1) is
  where
    by_test : (odd : Bool) → (if odd then Err OddLength else decode_pairs 0 text) ≡ Ok read → IsFrontRead octets read
    by_test true is = absurd cc
    by_test false is = pairs_back 0 text more octets read same is
