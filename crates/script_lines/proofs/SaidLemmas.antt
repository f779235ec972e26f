-- What a line says is what it spells: each piece that is read is spelled so, and what is spelled so is read again.
use Rattle.std.proofs.Common.{◌≡◌, ◌≢◌, ◌↔◌, ◌⊎◌, ℕ, suc, ◌+◌, ◌-◌, ◌^◌, ◌<◌, ◌≤◌, ◌==◌, ◌&&◌, Bool, true, false, cond, nat_eq, nat_le}
use Rattle.std.proofs.Common.{ltb, List, [], ◌∷◌, ◌++◌, length, get_or, take, drop, map, Option, Some, None, Result, Ok, Err, All, codes}
use Rattle.std.proofs.Common.{decimal, refl, sym, ap, subst, ◌∙◌, inl, inr, arith, append-nil, length-append}
use Rattle.std.specs.Prelude.{option_map}
use Rattle.std.specs.Int.{is_in_range}
use Rattle.std.specs.List.{starts_with}
use Rattle.std.specs.Result.{result_ok}
use Rattle.std.specs.Str.{bytes_eq}
use Rattle.std.proofs.lemmas.Bool.{and_parts, cases_eq, eqb-true, eqb-false, eq-eqb, ne_eqb, lt-ltb, ltb-true, le-ltb, ltb-false, le-leb, leb-true}
use Rattle.std.proofs.lemmas.Fmt.{decimal_digit, decimal_nonempty, decimal-digits_value, digits_decimal, digits_value-decimal, first_decimal}
use Rattle.std.proofs.lemmas.List.{take_at, drop_at, take-append-drop, get_or_append_left, get_or-append_right}
use Rattle.std.proofs.lemmas.List.Elements.{All-nil, All-cons, All-head, All-tail}
use Rattle.std.proofs.lemmas.List.Sums.{position_or_len_is}
use Rattle.std.proofs.lemmas.Option.{cond_some, some_pair_parts}
use Rattle.std.proofs.lemmas.Slice.Eq.{bytes_eq-Decides}
use Rattle.std.proofs.lemmas.Str.Parse.{digit_at}
use Rattle.hex.specs.Hex.{decode_of}
use Rattle.mc_model.specs.message.Ids.{IsId, IsMoment, IsNode}
use Rattle.mc_types.specs.Texts.{id_in}
use Rattle.mc_types.proofs.Texts.{ids_and_texts}
use Rattle.script_lines.specs.Said.{Said, Skipped, Nodes, Octets, Deliver, Crash, Tick, Grant, Settle, Restart, Replay, IsWording}
use Rattle.script_lines.specs.Said.{IsSession, Spells, spaced, side_word, most_number, each_once, ◌>>=◌, behind, has_leading_zero}
use Rattle.script_lines.specs.Said.{number_of, word_len, number_at, node_at, ends, nodes_said, octets_parts, octets_said, deliver_said}
use Rattle.script_lines.specs.Said.{side_in, crash_said, tick_said, grant_said, nodes_in, settle_said, restart_said, replay_said}
use Rattle.script_lines.specs.Said.{named_said, is_skipped, words_said, said_of, names_within, said_within}
use Rattle.script_lines.proofs.WordLemmas.{own, Numeral, Numeral-from_test, test-from_Numeral}

-- ---- a step that gave a value

bind_some : {A B : Type 0} (o : Option A) (f : A → Option B) (y : B) → (o >>= f) ≡ Some y → (x : A) × (o ≡ Some x) × (f x ≡ Some y)
bind_some (Some x) f y e = (x, refl, e)
bind_some None f y e = absurd cc

chosen : {A : Type 0} (test : Bool) (x y z : A) → cond test x y ≡ z → ((test ≡ true) × (x ≡ z)) ⊎ ((test ≡ false) × (y ≡ z))
chosen true x y z e = inl (refl, e)
chosen false x y z e = inr (refl, e)

empty_if : (xs : List ℕ) → (length xs == 0) ≡ true → xs ≡ []
empty_if [] e = refl
empty_if (x ∷ xs) e = absurd (let none : suc (length xs) ≡ 0 = eqb-true _ _ e in omega arith)

-- ---- what is behind a front

begins : (front text : List ℕ) → starts_with nat_eq text front ≡ true → text ≡ front ++ drop (length front) text
begins [] text e = refl
begins (octet ∷ front) [] e = absurd cc
begins (octet ∷ front) (first ∷ text) e =
    let both = and_parts _ _ e in
    let same : octet ≡ first = eqb-true _ _ both.0 in
    ap (λ x. x ∷ text) (sym same) ∙ ap (λ xs. octet ∷ xs) (begins front text both.1)

behind_takes : (front text rest : List ℕ) → behind front text ≡ Some rest → text ≡ front ++ rest
unfolding behind
behind_takes front text rest e =
    let is = cond_some (starts_with nat_eq text front) (drop (length front) text) rest e in
    begins front text is.0 ∙ ap (λ xs. front ++ xs) is.1

-- ---- numbers

plain_zero : (word : List ℕ) → 0 < length word → has_leading_zero word ≡ false → get_or word 0 0 ≡ 48 → length word ≡ 1
plain_zero [] some plain e = absurd (omega arith)
plain_zero (digit ∷ []) some plain e = refl
plain_zero (digit ∷ next ∷ digits) some plain e = absurd (eqb-false digit 48 plain e)

plain_first : (word : List ℕ) → 48 < get_or word 0 0 → has_leading_zero word ≡ false
plain_first [] high = refl
plain_first (digit ∷ []) high = refl
plain_first (digit ∷ next ∷ digits) high = ne_eqb digit 48 (λ (e : digit ≡ 48). omega arith)

number_of_takes : (word : List ℕ) (n : ℕ) → number_of word ≡ Some n → word ≡ decimal n
unfolding number_of
number_of_takes word n e =
    let is = cond_some _ _ _ e in
    let parts = and_parts _ _ is.0 in
    let numeral = Numeral-from_test word parts.0 in
    sym (decimal-digits_value own word numeral.digits numeral.some (plain_zero word numeral.some numeral.plain) (ltb-true _ _ parts.1)) ∙ ap decimal is.1

Numeral-decimal : (n : ℕ) → n < 2 ^ 64 → Numeral (decimal n)
Numeral-decimal n fits = record { some = decimal_nonempty n fits; plain = plain; digits = digits_decimal own n fits }
  where
    plain : has_leading_zero (decimal n) ≡ false
    plain = elim (cases_eq n 0) [
      | inl none ↦ rw (none, decimal_digit 0 (omega arith)) refl
      | inr some ↦ plain_first (decimal n) (first_decimal n (omega arith) fits)
    ]

number_of_again : (n : ℕ) → n < 2 ^ 64 → number_of (decimal n) ≡ Some n
unfolding number_of
number_of_again n fits =
    rw (test-from_Numeral (decimal n) (Numeral-decimal n fits), digits_value-decimal own n fits, lt-ltb n (2 ^ 64) fits) refl

-- ---- a space and a number

record TakesNumber (least most : ℕ) (text : List ℕ) (n : ℕ) (rest : List ℕ) : Type 0 where
  parts : text ≡ 32 ∷ decimal n ++ rest
  low : least ≤ n
  high : n ≤ most

word_and_rest : (text words word rest : List ℕ) (count : ℕ) → text ≡ 32 ∷ words → take count words ≡ word → drop count words ≡ rest → text ≡ 32 ∷ word ++ rest
word_and_rest text words word rest count p q r =
    let parts : words ≡ word ++ rest = rw (← q, ← r) (sym (take-append-drop count words)) in
    p ∙ ap (λ xs. 32 ∷ xs) parts

number_at_takes : (least most : ℕ) (text : List ℕ) (n : ℕ) (rest : List ℕ) → number_at least most text ≡ Some (n, rest) → TakesNumber least most text n rest
unfolding number_at
number_at_takes least most text n rest e =
    let a = bind_some (behind (codes " ") text) (λ words. number_of (take (word_len words) words) >>= λ number. cond (nat_le least number && nat_le number most) (Some (number, drop (word_len words) words)) None) (n, rest) e in
    let words = a.0 in
    let b = bind_some (number_of (take (word_len words) words))
    (λ number. cond (nat_le least number && nat_le number most) (Some (number, drop (word_len words) words)) None) (n, rest) a.2 in
    let is = cond_some (nat_le least b.0 && nat_le b.0 most) (b.0, drop (word_len words) words) (n, rest) b.2 in
    let n-is : b.0 ≡ n = ap (λ (p : ℕ × List ℕ). p.0) is.1 in
    let rest-is : drop (word_len words) words ≡ rest = ap (λ (p : ℕ × List ℕ). p.1) is.1 in
    let range = and_parts (nat_le least b.0) (nat_le b.0 most) is.0 in
    let word = number_of_takes (take (word_len words) words) b.0 b.1 in
    record {
      parts = word_and_rest text words (decimal n) rest (word_len words) (behind_takes (codes " ") text words a.1) (word ∙ ap decimal n-is) rest-is;
      low = omega (arith, leb-true least b.0 range.0, n-is);
      high = omega (arith, leb-true b.0 most range.1, n-is);
    }

-- the text ends, or a space follows
abbrev EndsWord : List ℕ → Type 0
EndsWord rest = 0 < length rest → get_or rest 0 0 ≡ 32

-- no digit is a space
digit_is_no_space : (n k : ℕ) → n < 2 ^ 64 → k < length (decimal n) → (get_or (decimal n) k 0 == 32) ≡ false
digit_is_no_space n k fits inside =
    let digit = digit_at (decimal n) k (own.to (decimal n) (digits_decimal own n fits)) inside in
    ne_eqb _ _ (λ (e : get_or (decimal n) k 0 ≡ 32). omega (arith, digit.0))

word_len-decimal : (n : ℕ) (rest : List ℕ) → n < 2 ^ 64 → EndsWord rest → word_len (decimal n ++ rest) ≡ length (decimal n)
word_len-decimal n rest fits ends =
    position_or_len_is (λ octet. octet == 32) (decimal n ++ rest) (length (decimal n)) 0 (omega (arith, length-append (decimal n) rest))
    (λ k inside. ap (λ x. x == 32) (get_or_append_left (decimal n) rest 0 k inside) ∙ digit_is_no_space n k fits inside)
    (λ more.
    let behind_it : get_or (decimal n ++ rest) (length (decimal n)) 0 ≡ get_or rest 0 0 =
    get_or-append_right (decimal n) rest (length (decimal n)) (length (decimal n)) 0 refl (omega arith)
    ∙ ap (λ i. get_or rest i 0) (let none : length (decimal n) - length (decimal n) ≡ 0 = omega arith in none) in
    eq-eqb _ _ (behind_it ∙ ends (omega (arith, length-append (decimal n) rest))))

number_at_again : (least most n : ℕ) (rest : List ℕ) → least ≤ n → n ≤ most → n < 2 ^ 64 → EndsWord rest →
    number_at least most (32 ∷ decimal n ++ rest) ≡ Some (n, rest)
unfolding number_at behind
number_at_again least most n rest low high fits ends =
    rw (
      word_len-decimal n rest fits ends,
      take_at (decimal n) rest (length (decimal n)) refl,
      drop_at (decimal n) rest
          (length (decimal n)) refl,
      number_of_again n fits,
      le-leb least n low,
      le-leb n most high,
    ) refl

-- a step that reads a number
record ReadsNumber (least most : ℕ) (text : List ℕ) (later : ℕ × List ℕ → Option Said) (said : Said) : Type 0 where
  number : ℕ
  rest : List ℕ
  taken : TakesNumber least most text number rest
  said_so : later (number, rest) ≡ Some said

reads_number : (least most : ℕ) (text : List ℕ) (later : ℕ × List ℕ → Option Said) (said : Said) →
    (number_at least most text >>= later) ≡ Some said → ReadsNumber least most text later said
reads_number least most text later said e =
    let a = bind_some (number_at least most text) later said e in
    record { number = a.0.0; rest = a.0.1; taken = number_at_takes least most text a.0.0 a.0.1 a.1; said_so = a.2 }

-- ---- a space and a node

record TakesNode (text : List ℕ) (node : ℕ) (rest : List ℕ) : Type 0 where
  is_node : IsNode node
  parts : text ≡ 32 ∷ decimal node ++ rest

node_digit : (octet digit : ℕ) (text : List ℕ) → octet ≡ 32 → 49 ≤ digit → digit ≤ 57 → octet ∷ digit ∷ text ≡ 32 ∷ decimal (digit - 48) ++ text
node_digit octet digit text space low high =
    let same : 48 + (digit - 48) ≡ digit = omega arith in
    rw (decimal_digit (digit - 48) (omega arith), same, space) refl

node_at_takes : (text : List ℕ) (node : ℕ) (rest : List ℕ) → node_at text ≡ Some (node, rest) → TakesNode text node rest
unfolding node_at
node_at_takes [] node rest e = absurd cc
node_at_takes (octet ∷ []) node rest e = absurd cc
node_at_takes (octet ∷ digit ∷ text) node rest e =
    let is = cond_some (octet == 32 && is_in_range 49 57 digit) (digit - 48, text) (node, rest) e in
    let both = and_parts (octet == 32) (is_in_range 49 57 digit) is.0 in
    let range = and_parts (nat_le 49 digit) (nat_le digit 57) both.1 in
    let low = leb-true 49 digit range.0 in
    let high = leb-true digit 57 range.1 in
    let same = some_pair_parts (digit - 48) node text rest (ap Some is.1) in
    let node_is : digit - 48 ≡ node = same.0 in
    record {
      is_node = record { least = omega arith; most = omega arith };
      parts = node_digit octet digit text (eqb-true octet 32 both.0) low high ∙ ap (λ n. 32 ∷ decimal n ++ text) same.0 ∙ ap
          (λ xs. 32 ∷ decimal node ++ xs) same.1;
    }

digit_passes : (node : ℕ) → IsNode node → is_in_range 49 57 (48 + node) ≡ true
digit_passes node is = rw (le-leb 49 (48 + node) (omega (arith, is.least)), le-leb (48 + node) 57 (omega (arith, is.most))) refl

node_at_again : (node : ℕ) (rest : List ℕ) → IsNode node → node_at (32 ∷ decimal node ++ rest) ≡ Some (node, rest)
unfolding node_at
node_at_again node rest is =
    let back : 48 + node - 48 ≡ node = omega arith in
    rw (decimal_digit node (omega (arith, is.most)), digit_passes node is, back) refl

-- a step that reads a node
record ReadsNode (text : List ℕ) (later : ℕ × List ℕ → Option Said) (said : Said) : Type 0 where
  node : ℕ
  rest : List ℕ
  taken : TakesNode text node rest
  said_so : later (node, rest) ≡ Some said

reads_node : (text : List ℕ) (later : ℕ × List ℕ → Option Said) (said : Said) → (node_at text >>= later) ≡ Some said → ReadsNode text later said
reads_node text later said e =
    let a = bind_some (node_at text) later said e in
    record { node = a.0.0; rest = a.0.1; taken = node_at_takes text a.0.0 a.0.1 a.1; said_so = a.2 }

-- ---- words in a row

word_first : (text rest : List ℕ) (n : ℕ) (more : List (List ℕ)) → text ≡ 32 ∷ decimal n ++ rest → rest ≡ spaced more → text ≡ spaced (decimal n ∷ more)
word_first text rest n more p q = rw (p, q) refl

last_word : (text words word : List ℕ) → text ≡ codes " " ++ words → words ≡ word → text ≡ spaced (word ∷ [])
last_word text words word p q = rw (p, q, append-nil word) refl

ends_so : (said last : Said) (rest : List ℕ) → ends said rest ≡ Some last → (rest ≡ []) × (said ≡ last)
ends_so said last rest e =
    let is = cond_some (length rest == 0) said last e in
    (empty_if rest is.0, is.1)

-- a word is there
some_word : (word : List ℕ) → word ≢ [] → (length word == 0) ≡ false
some_word [] some = absurd (some refl)
some_word (octet ∷ word) some = ne_eqb _ _ (λ (e : suc (length word) ≡ 0). omega arith)

-- ---- nodes

nodes_takes : (text : List ℕ) (said : Said) → nodes_said text ≡ Some said → IsWording said (codes "nodes" ++ text)
unfolding nodes_said
nodes_takes text said e =
    let more = λ (count : ℕ) (words : List ℕ). number_at 1 99999 words >>= λ serial. ends (Nodes count serial.0) serial.1 in
    let a = reads_node text (λ count. cond (length count.1 == 0) (Some (Nodes count.0 1)) (more count.0 count.1)) said e in
    elim (chosen (length a.rest == 0) (Some (Nodes a.node 1)) (more a.node a.rest) (Some said) a.said_so) [
      | inl none ↦
          let said-is : Nodes a.node 1 ≡ said = (let both = none.1 in cc) in
          let line = ap (λ xs. codes "nodes" ++ xs) (word_first text a.rest a.node [] a.taken.parts (empty_if a.rest none.0)) in
          subst (λ s. IsWording s (codes "nodes" ++ text)) said-is (a.taken.is_node, omega arith, omega arith, inr (refl, line))
      | inr some ↦
          let b = reads_number 1 99999 a.rest (λ serial. ends (Nodes a.node serial.0) serial.1) said some.1 in
          let is = ends_so (Nodes a.node b.number) said b.rest b.said_so in
          let words = word_first text a.rest a.node (decimal b.number ∷ []) a.taken.parts (word_first a.rest b.rest b.number [] b.taken.parts is.0) in
          subst (λ s. IsWording s (codes "nodes" ++ text)) is.1 (a.taken.is_node, b.taken.low, b.taken.high, inl (ap (λ xs. codes "nodes" ++ xs) words))
    ]

nodes_again : (count serial : ℕ) → IsNode count → 1 ≤ serial → serial ≤ 99999 →
    nodes_said (spaced (decimal count ∷ decimal serial ∷ [])) ≡ Some (Nodes count serial)
unfolding nodes_said
nodes_again count serial is low high =
    rw (
      node_at_again count (32 ∷ decimal serial ++ []) is,
      some_word (32 ∷ decimal serial ++ [])
          (λ (e : 32 ∷ decimal serial ++ [] ≡ []). absurd cc),
      number_at_again 1 99999 serial [] low high (omega arith)
          (λ some. absurd (omega arith)),
    ) refl

nodes_first : (count : ℕ) → IsNode count → nodes_said (spaced (decimal count ∷ [])) ≡ Some (Nodes count 1)
unfolding nodes_said
nodes_first count is = rw (node_at_again count [] is) refl

-- ---- octets of a stream

record TakesParts (text : List ℕ) (node session : ℕ) (digits : List ℕ) : Type 0 where
  is_node : IsNode node
  is_session : IsSession session
  some : digits ≢ []
  parts : text ≡ spaced (decimal node ∷ decimal session ∷ digits ∷ [])

octets_parts_take : (text : List ℕ) (parts : ℕ × ℕ × List ℕ) → octets_parts text ≡ Some parts → TakesParts text parts.0 parts.1 parts.2
unfolding octets_parts
octets_parts_take text parts e =
    let last = λ (node session : ℕ) (digits : List ℕ). cond {A = Option (ℕ × ℕ × List ℕ)} (length digits == 0) None (Some (node, session, digits)) in
    let later = λ (node : ℕ) (found : ℕ × List ℕ). behind (codes " ") found.1 >>= last node found.0 in
    let a = bind_some (node_at text) (λ node. number_at 1 99 node.1 >>= later node.0) parts e in
    let b = bind_some (number_at 1 99 a.0.1) (later a.0.0) parts a.2 in
    let c = bind_some (behind (codes " ") b.0.1) (last a.0.0 b.0.0) parts b.2 in
    let node = node_at_takes text a.0.0 a.0.1 a.1 in
    let found = number_at_takes 1 99 a.0.1 b.0.0 b.0.1 b.1 in
    elim (chosen {A = Option (ℕ × ℕ × List ℕ)} (length c.0 == 0) None (Some (a.0.0, b.0.0, c.0)) (Some parts) c.2) [
      | inl none ↦ absurd (let clash = none.1 in cc)
      | inr some ↦
          let is : (a.0.0, b.0.0, c.0) ≡ parts = (let both = some.1 in cc) in
          let taken : TakesParts text a.0.0 b.0.0 c.0 = record {
            is_node = node.is_node;
            is_session = record { least = found.low; most = found.high };
            some = λ (none : c.0 ≡ []). absurd (eqb-false _ _ some.0 (ap length none));
            parts = word_first text a.0.1 a.0.0 (decimal b.0.0 ∷ c.0 ∷ []) node.parts
                (word_first a.0.1 b.0.1 b.0.0 (c.0 ∷ []) found.parts (last_word b.0.1 c.0 c.0 (behind_takes (codes " ") b.0.1 c.0 c.1) refl));
          } in
          subst (λ (p : ℕ × ℕ × List ℕ). TakesParts text p.0 p.1 p.2) is taken
    ]

ok_if : {E : Type 0} (read : Result (List ℕ) E) (octets : List ℕ) → result_ok read ≡ Some octets → read ≡ Ok octets
ok_if (Ok x) octets e = cc
ok_if (Err x) octets e = absurd cc

octets_take : (text : List ℕ) (said : Said) → octets_said text ≡ Some said → IsWording said (codes "pdu" ++ text)
unfolding octets_said
octets_take text said e =
    let a = bind_some (octets_parts text) (λ parts. result_ok (decode_of parts.2) >>= λ octets. Some (Octets parts.0 parts.1 octets)) said e in
    let b = bind_some (result_ok (decode_of a.0.2)) (λ octets. Some (Octets a.0.0 a.0.1 octets)) said a.2 in
    let said-is : Octets a.0.0 a.0.1 b.0 ≡ said = (let both = b.2 in cc) in
    let taken = octets_parts_take text a.0 a.1 in
    subst (λ s. IsWording s (codes "pdu" ++ text)) said-is
    (taken.is_node, taken.is_session, (a.0.2, taken.some, ok_if (decode_of a.0.2) b.0 b.1, ap (λ xs. codes "pdu" ++ xs) taken.parts))

octets_parts_again : (node session : ℕ) (digits : List ℕ) → IsNode node → IsSession session → digits ≢ [] →
    octets_parts (spaced (decimal node ∷ decimal session ∷ digits ∷ [])) ≡ Some (node, session, digits)
unfolding octets_parts behind
octets_parts_again node session digits is range some =
    rw (
      node_at_again node (32 ∷ decimal session ++ (32 ∷ digits ++ [])) is,
      number_at_again 1 99 session
          (32 ∷ digits ++ []) range.least range.most (omega (arith, range.most)) (λ more. refl),
      append-nil digits,
      some_word digits some,
    ) refl

octets_again : (node session : ℕ) (digits octets : List ℕ) → IsNode node → IsSession session → digits ≢ [] → decode_of digits ≡ Ok octets →
    octets_said (spaced (decimal node ∷ decimal session ∷ digits ∷ [])) ≡ Some (Octets node session octets)
unfolding octets_said
octets_again node session digits octets is range some read = rw (octets_parts_again node session digits is range some, read) refl

-- ---- the packet of a number

deliver_takes : (text : List ℕ) (said : Said) → deliver_said text ≡ Some said → IsWording said (codes "deliver" ++ text)
unfolding deliver_said
deliver_takes text said e =
    let a = reads_number 0 most_number text (λ number. node_at number.1 >>= λ node. ends (Deliver number.0 node.0) node.1) said e in
    let b = reads_node a.rest (λ node. ends (Deliver a.number node.0) node.1) said a.said_so in
    let is = ends_so (Deliver a.number b.node) said b.rest b.said_so in
    let words = word_first text a.rest a.number (decimal b.node ∷ []) a.taken.parts (word_first a.rest b.rest b.node [] b.taken.parts is.0) in
    subst (λ s. IsWording s (codes "deliver" ++ text)) is.1 (a.taken.high, b.taken.is_node, ap (λ xs. codes "deliver" ++ xs) words)

deliver_again : (number node : ℕ) → number ≤ most_number → IsNode node → deliver_said (spaced (decimal number ∷ decimal node ∷ [])) ≡ Some (Deliver number node)
unfolding deliver_said
deliver_again number node most is =
    rw (number_at_again 0 most_number number (32 ∷ decimal node ++ []) (omega arith) most (omega arith) (λ more. refl), node_at_again node [] is) refl

-- ---- a crash

side_takes : (text : List ℕ) (after : Bool) → side_in text ≡ Some after → text ≡ spaced (side_word after ∷ [])
side_takes text after e =
    let last = cond {A = Option Bool} (bytes_eq text (codes " after")) (Some true) None in
    elim (chosen (bytes_eq text (codes " before")) (Some false) last (Some after) e) [
      | inl before ↦
          let is : false ≡ after = (let both = before.1 in cc) in
          subst (λ a. text ≡ spaced (side_word a ∷ [])) is ((bytes_eq-Decides text (codes " before")).0 before.0)
      | inr later ↦
          let is = cond_some (bytes_eq text (codes " after")) true after later.1 in
          subst (λ a. text ≡ spaced (side_word a ∷ [])) is.1 ((bytes_eq-Decides text (codes " after")).0 is.0)
    ]

side_again : (after : Bool) → side_in (spaced (side_word after ∷ [])) ≡ Some after
side_again false = refl
side_again true = refl

side_ends_word : (after : Bool) → EndsWord (spaced (side_word after ∷ []))
side_ends_word after some = refl

crash_takes : (text : List ℕ) (said : Said) → crash_said text ≡ Some said → IsWording said (codes "crash" ++ text)
unfolding crash_said
crash_takes text said e =
    let last = λ (node number : ℕ) (after : Bool). Some (Crash node number after) in
    let a = reads_node text (λ node. number_at 0 most_number node.1 >>= λ number. side_in number.1 >>= last node.0 number.0) said e in
    let b = reads_number 0 most_number a.rest (λ number. side_in number.1 >>= last a.node number.0) said a.said_so in
    let c = bind_some (side_in b.rest) (last a.node b.number) said b.said_so in
    let said-is : Crash a.node b.number c.0 ≡ said = (let both = c.2 in cc) in
    let words = word_first text a.rest a.node (decimal b.number ∷ side_word c.0 ∷ []) a.taken.parts
    (word_first a.rest b.rest b.number (side_word c.0 ∷ []) b.taken.parts (side_takes b.rest c.0 c.1)) in
    subst (λ s. IsWording s (codes "crash" ++ text)) said-is (a.taken.is_node, b.taken.high, ap (λ xs. codes "crash" ++ xs) words)

crash_again : (node number : ℕ) (after : Bool) → IsNode node → number ≤ most_number →
    crash_said (spaced (decimal node ∷ decimal number ∷ side_word after ∷ [])) ≡ Some (Crash node number after)
unfolding crash_said
crash_again node number after is most =
    rw (
      node_at_again node (32 ∷ decimal number ++ spaced (side_word after ∷ [])) is,
      number_at_again 0 most_number number
          (spaced (side_word after ∷ [])) (omega arith) most (omega arith) (side_ends_word after),
      side_again after,
    ) refl

-- ---- ticks

tick_takes : (text : List ℕ) (said : Said) → tick_said text ≡ Some said → IsWording said (codes "tick" ++ text)
unfolding tick_said
tick_takes text said e =
    let a = reads_node text (λ node. number_at 946684800 4102444799 node.1 >>= λ moment. ends (Tick node.0 moment.0) moment.1) said e in
    let b = reads_number 946684800 4102444799 a.rest (λ moment. ends (Tick a.node moment.0) moment.1) said a.said_so in
    let is = ends_so (Tick a.node b.number) said b.rest b.said_so in
    let is_moment : IsMoment b.number = record { least = b.taken.low; most = b.taken.high } in
    let words = word_first text a.rest a.node (decimal b.number ∷ []) a.taken.parts (word_first a.rest b.rest b.number [] b.taken.parts is.0) in
    subst (λ s. IsWording s (codes "tick" ++ text)) is.1 (a.taken.is_node, is_moment, ap (λ xs. codes "tick" ++ xs) words)

tick_again : (node moment : ℕ) → IsNode node → IsMoment moment → tick_said (spaced (decimal node ∷ decimal moment ∷ [])) ≡ Some (Tick node moment)
unfolding tick_said
tick_again node moment is range =
    rw (
      node_at_again node (32 ∷ decimal moment ++ []) is,
      number_at_again 946684800 4102444799 moment [] range.least range.most
          (omega (arith, range.most)) (λ some. absurd (omega arith)),
    ) refl

-- ---- grants

grant_takes : (text : List ℕ) (said : Said) → grant_said text ≡ Some said → IsWording said (codes "grant" ++ text)
unfolding grant_said
grant_takes text said e =
    let last = λ (node : ℕ) (word : List ℕ). id_in word >>= λ id. Some (Grant node id) in
    let a = reads_node text (λ node. behind (codes " ") node.1 >>= last node.0) said e in
    let b = bind_some (behind (codes " ") a.rest) (last a.node) said a.said_so in
    let c = bind_some (id_in b.0) (λ id. Some (Grant a.node id)) said b.2 in
    let said-is : Grant a.node c.0 ≡ said = (let both = c.2 in cc) in
    let named = (ids_and_texts b.0 c.0).0 c.1 in
    let words = word_first text a.rest a.node (decimal c.0 ∷ []) a.taken.parts (last_word a.rest b.0 (decimal c.0) (behind_takes (codes " ") a.rest b.0 b.1) named.1) in
    subst (λ s. IsWording s (codes "grant" ++ text)) said-is (a.taken.is_node, named.0, ap (λ xs. codes "grant" ++ xs) words)

grant_again : (node id : ℕ) → IsNode node → IsId id → grant_said (spaced (decimal node ∷ decimal id ∷ [])) ≡ Some (Grant node id)
unfolding grant_said behind
grant_again node id is is_id =
    rw (node_at_again node (32 ∷ decimal id ++ []) is, append-nil (decimal id), (ids_and_texts (decimal id) id).1 (is_id, refl)) refl

-- ---- nodes that are listed

more_listed : (octet digit : ℕ) (text : List ℕ) (listed : Option (List ℕ)) (nodes : List ℕ) → octet ≡ 32 → 49 ≤ digit → digit ≤ 57 →
    ((others : List ℕ) → listed ≡ Some others → All IsNode others × (text ≡ spaced (map decimal others))) →
    option_map (λ others. (digit - 48) ∷ others) listed ≡ Some nodes → All IsNode nodes × (octet ∷ digit ∷ text ≡ spaced (map decimal nodes))
more_listed octet digit text None nodes space low high takes e = absurd cc
more_listed octet digit text (Some others) nodes space low high takes e =
    let rest = takes others refl in
    let is : (digit - 48) ∷ others ≡ nodes = cc in
    let first : IsNode (digit - 48) = record { least = omega arith; most = omega arith } in
    subst (λ ns. All IsNode ns × (octet ∷ digit ∷ text ≡ spaced (map decimal ns))) is
    (All-cons IsNode (digit - 48) others first rest.0, node_digit octet digit text space low high ∙ ap (λ xs. 32 ∷ decimal (digit - 48) ++ xs) rest.1)

listed_take : (text nodes : List ℕ) → nodes_in text ≡ Some nodes → All IsNode nodes × (text ≡ spaced (map decimal nodes))
unfolding nodes_in
listed_take [] nodes e = let none : [] ≡ nodes = cc in subst (λ ns. All IsNode ns × ([] ≡ spaced (map decimal ns))) none (All-nil IsNode, refl)
listed_take (octet ∷ []) nodes e = absurd cc
listed_take (octet ∷ digit ∷ text) nodes e =
    elim (chosen (octet == 32 && is_in_range 49 57 digit) (option_map (λ others. (digit - 48) ∷ others) (nodes_in text)) None (Some nodes) e) [
      | inl passes ↦
          let both = and_parts (octet == 32) (is_in_range 49 57 digit) passes.0 in
          let range = and_parts (nat_le 49 digit) (nat_le digit 57) both.1 in
          more_listed octet digit text (nodes_in text) nodes (eqb-true octet 32 both.0) (leb-true 49 digit range.0) (leb-true digit 57 range.1)
          (λ others is. listed_take text others is) passes.1
      | inr none ↦ absurd (let clash = none.1 in cc)
    ]

listed_again : (nodes : List ℕ) → All IsNode nodes → nodes_in (spaced (map decimal nodes)) ≡ Some nodes
unfolding nodes_in
listed_again [] all = refl
listed_again (node ∷ nodes) all =
    let is = All-head IsNode node nodes all in
    let back : 48 + node - 48 ≡ node = omega arith in
    rw (decimal_digit node (omega (arith, is.most)), digit_passes node is, back, listed_again nodes (All-tail IsNode node nodes all)) refl

settle_takes : (text : List ℕ) (said : Said) → settle_said text ≡ Some said → IsWording said (codes "settle" ++ text)
unfolding settle_said
settle_takes text said e = by_listed (nodes_in text) refl e
  where
    by_listed : (listed : Option (List ℕ)) → nodes_in text ≡ listed → option_map (λ nodes. Settle (each_once nodes)) listed ≡ Some said →
        IsWording said (codes "settle" ++ text)
    by_listed None is so = absurd cc
    by_listed (Some nodes) is so =
        let said-is : Settle (each_once nodes) ≡ said = cc in
        let taken = listed_take text nodes is in
        subst (λ s. IsWording s (codes "settle" ++ text)) said-is (nodes, taken.0, refl, ap (λ xs. codes "settle" ++ xs) taken.1)

settle_again : (nodes : List ℕ) → All IsNode nodes → settle_said (spaced (map decimal nodes)) ≡ Some (Settle (each_once nodes))
unfolding settle_said
settle_again nodes all = rw (listed_again nodes all) refl

-- ---- a restart

restart_takes : (text : List ℕ) (said : Said) → restart_said text ≡ Some said → IsWording said (codes "restart" ++ text)
unfolding restart_said
restart_takes text said e =
    let a = reads_node text (λ node. ends (Restart node.0) node.1) said e in
    let is = ends_so (Restart a.node) said a.rest a.said_so in
    let words = word_first text a.rest a.node [] a.taken.parts is.0 in
    subst (λ s. IsWording s (codes "restart" ++ text)) is.1 (a.taken.is_node, ap (λ xs. codes "restart" ++ xs) words)

restart_again : (node : ℕ) → IsNode node → restart_said (spaced (decimal node ∷ [])) ≡ Some (Restart node)
unfolding restart_said
restart_again node is = rw (node_at_again node [] is) refl

-- ---- a replay

replay_takes : (text : List ℕ) (said : Said) → replay_said text ≡ Some said → IsWording said (codes "replay" ++ text)
unfolding replay_said
replay_takes text said e =
    let a = reads_number 0 most_number text (λ count. ends (Replay count.0) count.1) said e in
    let is = ends_so (Replay a.number) said a.rest a.said_so in
    let words = word_first text a.rest a.number [] a.taken.parts is.0 in
    subst (λ s. IsWording s (codes "replay" ++ text)) is.1 (a.taken.high, ap (λ xs. codes "replay" ++ xs) words)

replay_again : (count : ℕ) → count ≤ most_number → replay_said (spaced (decimal count ∷ [])) ≡ Some (Replay count)
unfolding replay_said
replay_again count most = rw (number_at_again 0 most_number count [] (omega arith) most (omega arith) (λ some. absurd (omega arith))) refl

-- ---- whole lines

-- a first word, and what is behind it; or another first word
word_takes : (word : List ℕ) (later : List ℕ → Option Said) (others : Option Said) (line : List ℕ) (said : Said) →
    ((text : List ℕ) → later text ≡ Some said → IsWording said (word ++ text)) → (others ≡ Some said → IsWording said line) →
    cond (starts_with nat_eq line word) (later (drop (length word) line)) others ≡ Some said → IsWording said line
word_takes word later others line said takes otherwise e =
    elim (chosen (starts_with nat_eq line word) (later (drop (length word) line)) others (Some said) e) [
      | inl first ↦ subst (IsWording said) (sym (begins word line first.0)) (takes (drop (length word) line) first.1)
      | inr rest ↦ otherwise rest.1
    ]

named_takes : (line : List ℕ) (said : Said) → named_said line ≡ Some said → IsWording said line
unfolding named_said
named_takes line said e =
    word_takes (codes "nodes") nodes_said _ line said (λ text. nodes_takes text said)
    (word_takes (codes "deliver") deliver_said _ line said (λ text. deliver_takes text said)
    (word_takes (codes "crash") crash_said _ line said (λ text. crash_takes text said)
    (word_takes (codes "tick") tick_said _ line said (λ text. tick_takes text said)
    (word_takes (codes "grant") grant_said _ line said (λ text. grant_takes text said)
    (word_takes (codes "settle") settle_said _ line said (λ text. settle_takes text said)
    (word_takes (codes "restart") restart_said _ line said (λ text. restart_takes text said)
    (word_takes (codes "replay") replay_said None line said (λ text. replay_takes text said)
    (λ none. absurd cc)))))))) e

words_takes : (line : List ℕ) (said : Said) → words_said line ≡ Some said → IsWording said line
unfolding words_said
words_takes line said e = word_takes (codes "pdu") octets_said (named_said line) line said (λ text. octets_take text said) (named_takes line said) e

skipped_takes : (line : List ℕ) → is_skipped line ≡ true → IsWording Skipped line
skipped_takes [] e = inl refl
skipped_takes (octet ∷ line) e = inr (eqb-true octet 35 e)

skipped_again : (line : List ℕ) → IsWording Skipped line → is_skipped line ≡ true
skipped_again [] h = refl
skipped_again (octet ∷ line) (inl e) = absurd cc
skipped_again (octet ∷ line) (inr e) = eq-eqb octet 35 e

said_takes : (line : List ℕ) (said : Said) → said_of line ≡ Some said → Spells said line
unfolding said_of
said_takes line said e =
    let short = cond (is_skipped line) (Some Skipped) (words_said line) in
    elim (chosen (ltb 20000 (length line)) None short (Some said) e) [
      | inl long ↦ absurd (let clash = long.1 in cc)
      | inr rest ↦
          let within = ltb-false 20000 (length line) rest.0 in
          elim (chosen (is_skipped line) (Some Skipped) (words_said line) (Some said) rest.1) [
            | inl skipped ↦
                let said-is : Skipped ≡ said = (let both = skipped.1 in cc) in
                record { short = within; wording = subst (λ s. IsWording s line) said-is (skipped_takes line skipped.0) }
            | inr words ↦ record { short = within; wording = words_takes line said words.1 }
          ]
    ]

-- what a line that is not too long says
abbrev said_short : List ℕ → Option Said
said_short line = cond (is_skipped line) (Some Skipped) (words_said line)

said_of-short : (line : List ℕ) → length line ≤ 20000 → said_of line ≡ said_short line
unfolding said_of
said_of-short line short = rw (le-ltb 20000 (length line) short) refl

nodes_line : (text : List ℕ) → said_short (codes "nodes" ++ text) ≡ nodes_said text
unfolding words_said named_said
nodes_line text = refl

octets_line : (text : List ℕ) → said_short (codes "pdu" ++ text) ≡ octets_said text
unfolding words_said named_said
octets_line text = refl

deliver_line : (text : List ℕ) → said_short (codes "deliver" ++ text) ≡ deliver_said text
unfolding words_said named_said
deliver_line text = refl

crash_line : (text : List ℕ) → said_short (codes "crash" ++ text) ≡ crash_said text
unfolding words_said named_said
crash_line text = refl

tick_line : (text : List ℕ) → said_short (codes "tick" ++ text) ≡ tick_said text
unfolding words_said named_said
tick_line text = refl

grant_line : (text : List ℕ) → said_short (codes "grant" ++ text) ≡ grant_said text
unfolding words_said named_said
grant_line text = refl

settle_line : (text : List ℕ) → said_short (codes "settle" ++ text) ≡ settle_said text
unfolding words_said named_said
settle_line text = refl

restart_line : (text : List ℕ) → said_short (codes "restart" ++ text) ≡ restart_said text
unfolding words_said named_said
restart_line text = refl

replay_line : (text : List ℕ) → said_short (codes "replay" ++ text) ≡ replay_said text
unfolding words_said named_said
replay_line text = refl

wording_again : (line : List ℕ) (said : Said) → IsWording said line → said_short line ≡ Some said
wording_again line Skipped w = rw (skipped_again line w) refl
wording_again line (Nodes count serial) w =
    elim w.3 [
      | inl given ↦ ap said_short given ∙ nodes_line (spaced (decimal count ∷ decimal serial ∷ [])) ∙ nodes_again count serial w.0 w.1 w.2
      | inr first ↦ ap said_short first.1 ∙ nodes_line (spaced (decimal count ∷ [])) ∙ nodes_first count w.0 ∙ ap (λ n. Some (Nodes count n)) (sym first.0)
    ]
wording_again line (Octets node session octets) w =
    ap said_short w.2.3 ∙ octets_line (spaced (decimal node ∷ decimal session ∷ w.2.0 ∷ [])) ∙ octets_again node session w.2.0 octets w.0 w.1 w.2.1 w.2.2
wording_again line (Deliver number node) w =
    ap said_short w.2 ∙ deliver_line (spaced (decimal number ∷ decimal node ∷ [])) ∙ deliver_again number node w.0 w.1
wording_again line (Crash node number after) w =
    ap said_short w.2 ∙ crash_line (spaced (decimal node ∷ decimal number ∷ side_word after ∷ [])) ∙ crash_again node number after w.0 w.1
wording_again line (Tick node moment) w =
    ap said_short w.2 ∙ tick_line (spaced (decimal node ∷ decimal moment ∷ [])) ∙ tick_again node moment w.0 w.1
wording_again line (Grant node id) w =
    ap said_short w.2 ∙ grant_line (spaced (decimal node ∷ decimal id ∷ [])) ∙ grant_again node id w.0 w.1
wording_again line (Settle nodes) w =
    ap said_short w.3 ∙ settle_line (spaced (map decimal w.0)) ∙ settle_again w.0 w.1 ∙ ap (λ ns. Some (Settle ns)) (sym w.2)
wording_again line (Restart node) w = ap said_short w.1 ∙ restart_line (spaced (decimal node ∷ [])) ∙ restart_again node w.0
wording_again line (Replay count) w = ap said_short w.1 ∙ replay_line (spaced (decimal count ∷ [])) ∙ replay_again count w.0

pub spelled_so : (line : List ℕ) (said : Said) → (said_of line ≡ Some said) ↔ Spells said line
spelled_so line said = (said_takes line said, λ spells. said_of-short line spells.short ∙ wording_again line said spells.wording)

-- a line that names these nodes alone says what it spells, too
pub spells_within : (most : ℕ) (line : List ℕ) (said : Said) → said_within most line ≡ Some said → Spells said line
spells_within most line said e =
    let a = bind_some (said_of line) (λ found. cond (names_within most found) (Some found) None) said e in
    let is = cond_some (names_within most a.0) a.0 said a.2 in
    said_takes line said (a.1 ∙ ap (λ s. Some s) is.1)
