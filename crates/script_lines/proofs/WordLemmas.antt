-- Words, numbers and digits of a line.
use Rattle.std.proofs.Common.{◌≡◌, ◌↔◌, ℕ, ◌+◌, ◌-◌, ◌%◌, ◌^◌, ◌<◌, ◌≤◌, ◌==◌, ◌&&◌, ◌||◌, not, Bool, true, false, cond, nat_le, List, []}
use Rattle.std.proofs.Common.{◌∷◌, length, get_or, Option, Some, None, Result, Ok, Err, IsOk, position, refl, sym, ap, subst, ◌∙◌, inl}
use Rattle.std.proofs.Common.{inr, arith}
use Rattle.std.specs.Prelude.{unwrap_or, filter, is_some, option_map, IsUtf8, MatchResult}
use Rattle.std.specs.Result.{result_ok}
use Rattle.std.specs.List.{position_or_len, list_all, range_with_len}
use Rattle.std.specs.Char.{is_ascii_digit, is_ascii_hexdigit}
use Rattle.std.specs.Int.{is_in_range}
use Rattle.std.specs.Str.{all_ascii_digits}
use Rattle.std.specs.Str.Parse.{ParsesUnsigned, digits_value}
use Rattle.std.proofs.lemmas.Bool.{and_parts, cases_lt, lt-ltb, le-leb, le-ltb, lt-leb, ltb-true, not-true}
use Rattle.std.proofs.lemmas.Bool.Decides.{nat_tests}
use Rattle.std.proofs.lemmas.List.Elements.{All-from_get_or, All-weaker}
use Rattle.std.proofs.lemmas.List.Folds.{list_all_at}
use Rattle.std.proofs.lemmas.List.FromFn.{get_or-range_with_len, length-range_with_len}
use Rattle.std.proofs.lemmas.Option.{some_pair_parts}
use Rattle.std.proofs.lemmas.List.Recursion.{same_from_clauses}
use Rattle.std.proofs.lemmas.List.Sums.{prefix_len-le-length, AllPass-from_list_all, list_all-from_AllPass}
use Rattle.std.proofs.lemmas.Str.{IsUtf8-from_ascii}
use Rattle.std.proofs.lemmas.Str.Parse.{IsNumeralModel, numerals_by_value, tells_all_ascii_digits, parse_digits}
use Rattle.std.proofs.lemmas.Fmt.{IsAscii-from_digits}
use Rattle.hex.specs.declared.error.FromHexError.{FromHexError}
use Rattle.hex.specs.Hex.{decode_of, is_hex_digit}
use Rattle.hex.proofs.HexLemmas.{decode_of-ok, decode_of-digits}
use Rattle.script_lines.specs.Said.{Settle, each_once, has_leading_zero, is_listed, is_numeral, node_at, nodes_in, nodes_with, number_of}

-- ---- where a word ends

-- the first place, or the length
pub unwrap_or-position : (p : ℕ → Bool) (xs : List ℕ) → unwrap_or (position p xs) (length xs) ≡ position_or_len p xs
unwrap_or-position p xs = grind (arith, nat_tests, prefix_len-le-length (λ x. not (p x)) xs)

-- ---- nodes that are listed

pub nodes_in-end : (text : List ℕ) → 0 < length text → None ≡ node_at text → nodes_in text ≡ None
unfolding node_at nodes_in
nodes_in-end [] some e = absurd (omega arith)
nodes_in-end (octet ∷ []) some e = refl
nodes_in-end (octet ∷ digit ∷ text) some e = by_test (octet == 32 && is_in_range 49 57 digit) e
  where
    by_test : (test : Bool) → ◌≡◌ {A = Option (ℕ × List ℕ)} None (cond test (Some (digit - 48, text)) None) →
        cond test (option_map (λ nodes. (digit - 48) ∷ nodes) (nodes_in text)) None ≡ None
    by_test true e = absurd cc
    by_test false e = refl

-- a node and what is behind it are one more node of the list, and fewer octets
pub record GoesOn (text rest : List ℕ) (node : ℕ) : Type 0 where
  pub listed : nodes_in text ≡ option_map (λ nodes. node ∷ nodes) (nodes_in rest)
  pub shorter : length rest < length text

pub nodes_in-next : (text rest : List ℕ) (node : ℕ) → Some (node, rest) ≡ node_at text → GoesOn text rest node
unfolding node_at nodes_in
nodes_in-next [] rest node e = absurd cc
nodes_in-next (octet ∷ []) rest node e = absurd cc
nodes_in-next (octet ∷ digit ∷ text) rest node e = by_test (octet == 32 && is_in_range 49 57 digit) e refl
  where
    by_test : (test : Bool) → ◌≡◌ {A = Option (ℕ × List ℕ)} (Some (node, rest)) (cond test (Some (digit - 48, text)) None) →
        (octet == 32 && is_in_range 49 57 digit) ≡ test →
        GoesOn (octet ∷ digit ∷ text) rest node
    by_test true e is =
        let both = some_pair_parts node (digit - 48) rest text e in
        record {
          listed = rw (is, both.0, both.1) refl;
          shorter = omega (arith, ap length both.1);
        }
    by_test false e is = absurd cc

-- the nodes that pass a test or are listed
abbrev pub joined : (ℕ → Bool) → List ℕ → List ℕ
joined test nodes = nodes_with (λ node. test node || is_listed nodes node)

or_false : (b : Bool) → (b || false) ≡ b
or_false true = refl
or_false false = refl

or_assoc : (a b c : Bool) → ((a || b) || c) ≡ (a || (b || c))
or_assoc true b c = refl
or_assoc false b c = refl

pub joined-first : (test : ℕ → Bool) → ((node : ℕ) → test node ≡ false) → (listed : Option (List ℕ)) →
    option_map (joined test) listed ≡ option_map each_once listed
joined-first test none None = refl
joined-first test none (Some nodes) = λ i. Some (nodes_with (λ node. none node i || is_listed nodes node))

pub joined-next : (old new : ℕ → Bool) (first given : ℕ) → given ≡ first → ((node : ℕ) → new node ≡ (old node || node == given)) → (listed : Option (List ℕ)) →
    option_map (joined new) listed ≡ option_map (joined old) (option_map (λ nodes. first ∷ nodes) listed)
joined-next old new first given is added None = refl
joined-next old new first given is added (Some nodes) = λ i. Some (nodes_with (λ node. at_node node i))
  where
    at_node : (node : ℕ) → (new node || is_listed nodes node) ≡ (old node || (node == first || is_listed nodes node))
    at_node node = rw (added node, is) (or_assoc (old node) (node == first) (is_listed nodes node))

pub joined-none : (test : ℕ → Bool) → joined test [] ≡ nodes_with test
joined-none test = λ i. nodes_with (λ node. or_false (test node) i)

pub nodes_in-none : (text : List ℕ) → length text ≡ 0 → nodes_in text ≡ Some []
unfolding nodes_in
nodes_in-none [] none = refl
nodes_in-none (octet ∷ text) none = absurd (omega arith)

pub unsettled : (listed : Option (List ℕ)) → None ≡ option_map each_once listed → None ≡ option_map (λ words. Settle (each_once words)) listed
unsettled None e = refl
unsettled (Some words) e = absurd cc

pub settled : (nodes : List ℕ) (listed : Option (List ℕ)) → Some nodes ≡ option_map each_once listed →
    Some (Settle nodes) ≡ option_map (λ words. Settle (each_once words)) listed
settled nodes None e = absurd cc
settled nodes (Some words) e = cc

-- ---- the highest node

kept_all : (test q : ℕ → Bool) (nodes : List ℕ) → list_all q (filter test nodes) ≡ list_all (λ node. not (test node) || q node) nodes
kept_all test q [] = refl
kept_all test q (node ∷ nodes) = by_test (test node) (kept_all test q nodes)
  where
    by_test : (passes : Bool) → list_all q (filter test nodes) ≡ list_all (λ n. not (test n) || q n) nodes →
        list_all q (cond passes (node ∷ filter test nodes) (filter test nodes)) ≡ ((not passes || q node) && list_all (λ n. not (test n) || q n) nodes)
    by_test true rest = ap (λ b. q node && b) rest
    by_test false rest = rest

pub within_all : (test : ℕ → Bool) (most : ℕ) → ((node : ℕ) → 1 ≤ node → node < 10 → most < node → test node ≡ false) →
    list_all (λ node. nat_le node most) (nodes_with test) ≡ true
unfolding nodes_with
within_all test most none =
    kept_all test (λ node. nat_le node most) (range_with_len 1 9)
    ∙ list_all-from_AllPass (λ node. not (test node) || nat_le node most) (range_with_len 1 9)
    (All-from_get_or (λ node. (not (test node) || nat_le node most) ≡ true) (range_with_len 1 9) 0 (λ i inside. at_node i inside))
  where
    passes : (node : ℕ) → 1 ≤ node → node < 10 → (not (test node) || nat_le node most) ≡ true
    passes node least last = elim (cases_lt most node) [
      | inl over ↦ rw (none node least last over) refl
      | inr within ↦ rw (le-leb node most within) (by_test (test node))
    ]
      where
        by_test : (t : Bool) → (not t || true) ≡ true
        by_test true = refl
        by_test false = refl

    at_node : (i : ℕ) → i < length (range_with_len 1 9) → (not (test (get_or (range_with_len 1 9) i 0)) || nat_le (get_or (range_with_len 1 9) i 0) most) ≡ true
    at_node i inside =
        let small : i < 9 = omega (arith, length-range_with_len 1 9) in
        let is : get_or (range_with_len 1 9) i 0 ≡ 1 + i = get_or-range_with_len 1 9 i 0 small in
        subst (λ node. (not (test node) || nat_le node most) ≡ true) (sym is) (passes (1 + i) (omega arith) (omega arith))

pub within_not : (test : ℕ → Bool) (most node : ℕ) → 1 ≤ node → node < 10 → most < node → test node ≡ true →
    list_all (λ n. nat_le n most) (nodes_with test) ≡ false
unfolding nodes_with
within_not test most node least last over passes =
    kept_all test (λ n. nat_le n most) (range_with_len 1 9)
    ∙ list_all_at (λ n. not (test n) || nat_le n most) (range_with_len 1 9) (node - 1) 0 (omega (arith, length-range_with_len 1 9)) fails
  where
    is : get_or (range_with_len 1 9) (node - 1) 0 ≡ node
    is = get_or-range_with_len 1 9 (node - 1) 0 (omega arith) ∙ omega arith

    fails : (not (test (get_or (range_with_len 1 9) (node - 1) 0)) || nat_le (get_or (range_with_len 1 9) (node - 1) 0) most) ≡ false
    fails = subst (λ n. (not (test n) || nat_le n most) ≡ false) (sym is) (rw (passes, lt-leb node most over) refl)

-- ---- numbers

all_digits : (word : List ℕ) → all_ascii_digits word ≡ list_all is_ascii_digit word
all_digits word = same_from_clauses all_ascii_digits (list_all is_ascii_digit) (λ c rest. is_ascii_digit c && rest) refl (λ _ _. refl) (λ _ _. refl) word

pub own : IsNumeralModel (λ ds. all_ascii_digits ds ≡ true) (digits_value 10)
own = numerals_by_value _ tells_all_ascii_digits

-- what a numeral is
pub record Numeral (word : List ℕ) : Type 0 where
  pub some : 0 < length word
  pub plain : has_leading_zero word ≡ false
  pub digits : all_ascii_digits word ≡ true

pub Numeral-from_test : (word : List ℕ) → is_numeral word ≡ true → Numeral word
Numeral-from_test word e =
    let parts = and_parts _ _ e in
    let front = and_parts _ _ parts.0 in
    record { some = ltb-true _ _ front.0; plain = not-true _ front.1; digits = all_digits word ∙ parts.1 }

pub test-from_Numeral : (word : List ℕ) → Numeral word → is_numeral word ≡ true
test-from_Numeral word h = rw (lt-ltb 0 (length word) h.some, h.plain, sym (all_digits word) ∙ h.digits) refl

pub IsUtf8-numeral : (word : List ℕ) → Numeral word → IsUtf8 word
IsUtf8-numeral word h = IsUtf8-from_ascii word (IsAscii-from_digits word (own.to word h.digits))

-- what `from_utf8` says, behind `ok`
pub was_refused : {S E : Type 0} (P : S → Type 0) (Q : Type 0) (X : E → Type 0) (r : Result S E) → MatchResult r P (λ e. (¬ Q) × X e) →
    None ≡ result_ok r → Q →
    ⊥
was_refused P Q X (Ok x) h e q = absurd cc
was_refused P Q X (Err x) h e q = h.0 q

pub was_accepted : {S E : Type 0} (P : S → Type 0) (X : E → Type 0) (r : Result S E) (s : S) → MatchResult r P X → Some s ≡ result_ok r → P s
was_accepted P X (Ok x) s h e = let same : x ≡ s = cc in subst P same h
was_accepted P X (Err x) s h e = absurd cc

-- what `parse` answers at a numeral
pub parsed : {E : Type 0} (word : List ℕ) (r : Result ℕ E) → Numeral word → ParsesUnsigned 64 10 word r → result_ok r ≡ number_of word
unfolding number_of
parsed {E} word (Ok n) h p =
    let is = parse_digits own {E = E} 64 word (Ok n) p h.digits in
    ap Some is.1 ∙ sym (rw (test-from_Numeral word h, lt-ltb (digits_value 10 word) (2 ^ 64) is.0.1) refl)
parsed {E} word (Err e) h p =
    let refused = parse_digits own {E = E} 64 word (Err e) p h.digits in
    elim (cases_lt (digits_value 10 word) (2 ^ 64)) [
      | inl fits ↦ absurd (refused (h.some, fits))
      | inr over ↦ sym (rw (test-from_Numeral word h, le-ltb (digits_value 10 word) (2 ^ 64) over) refl)
    ]

-- ---- octets in hex digits

digit_cases : (upper lower digit : Bool) (x y z : ℕ) →
    ((digit || upper) || lower) ≡ is_some (cond upper (Some x) (cond lower (Some y) (cond digit (Some z) None)))
digit_cases true true true x y z = refl
digit_cases true true false x y z = refl
digit_cases true false true x y z = refl
digit_cases true false false x y z = refl
digit_cases false true true x y z = refl
digit_cases false true false x y z = refl
digit_cases false false true x y z = refl
digit_cases false false false x y z = refl

hex_digit_same : (c : ℕ) → is_ascii_hexdigit c ≡ is_hex_digit c
hex_digit_same c = digit_cases (is_in_range 65 70 c) (is_in_range 97 102 c) (is_in_range 48 57 c) (c - 55) (c - 87) (c - 48)

ok_value : (r : Result (List ℕ) FromHexError) → IsOk r → (octets : List ℕ) × (r ≡ Ok octets)
ok_value (Ok octets) h = (octets, refl)
ok_value (Err e) h = cc h

pub IsOk-decode_of : (digits : List ℕ) → length digits % 2 ≡ 0 → (list_all is_ascii_hexdigit digits ≡ true) ↔ IsOk (decode_of digits)
IsOk-decode_of digits even = (
  λ all.
      let pass = All-weaker (λ c. is_ascii_hexdigit c ≡ true) (λ c. is_hex_digit c ≡ true) (λ c h. sym (hex_digit_same c) ∙ h) digits
      (AllPass-from_list_all is_ascii_hexdigit digits all) in
      let read = decode_of-digits digits even pass in
      rw read.1 refl,
  λ ok.
      let read = ok_value (decode_of digits) ok in
      list_all-from_AllPass is_ascii_hexdigit digits
      (All-weaker (λ c. is_hex_digit c ≡ true) (λ c. is_ascii_hexdigit c ≡ true) (λ c h. hex_digit_same c ∙ h) digits
      (decode_of-ok digits read.0 read.1).1),
)
