-- Each kind of field: what is read stands at the front of the octets, and what stands there is read.
use Rattle.std.proofs.Common.{◌≡◌, ℕ, suc, ◌+◌, ◌<◌, ◌≤◌, Bool, true, false, not, cond, eqb, ltb, leb, List, [], ◌∷◌, ◌++◌, length, get_or}
use Rattle.std.proofs.Common.{take, drop, position, Option, Some, None, Result, Ok, Err, min, refl, sym, ap, subst, ◌∙◌, arith}
use Rattle.std.proofs.Common.{append_assoc, length-append, length-take}
use Rattle.std.specs.Int.{w16, w32, w64, from_be_bytes}
use Rattle.std.specs.List.{position_or_len}
use Rattle.std.proofs.Math.Seq.{drop-cons, get_or-append_seam}
use Rattle.std.proofs.Math.ListN.{get_or-append}
use Rattle.std.proofs.lemmas.Bool.{and_parts, and_from, eqb-false, eqb-true, eq-eqb, ne_eqb, leb-true, le-leb, ltb-true, ltb-false, lt-ltb, le-ltb}
use Rattle.std.proofs.lemmas.List.{append-nil, get_or-take, take_at, drop_at, take-append-drop}
use Rattle.std.proofs.lemmas.List.Elements.{All-from_get_or}
use Rattle.std.proofs.lemmas.List.Folds.{list_any_none}
use Rattle.std.proofs.lemmas.List.Quantifiers.{position-Some}
use Rattle.std.proofs.lemmas.List.Sums.{position_or_len_is}
use Rattle.std.proofs.lemmas.Nat.{be_bytes_2, be_bytes_4, be_bytes_8, from_be_bytes-to_be_bytes_2, from_be_bytes-to_be_bytes_4, from_be_bytes-to_be_bytes_8}
use Rattle.octet_fields.specs.declared.defect.Defect.{Defect}
use Rattle.octet_fields.specs.declared.defect.Defect.TheVariants.{Cut, Few, Long, Unfit}
use Rattle.octet_fields.specs.Texts.{IsOctets, IsText, optional_octets}
use Rattle.octet_fields.specs.Kinds.{Size, One, Two, Four, Eight, capacity, Kind, Number, Text, Counted, Parameters, Content, is_between}
use Rattle.octet_fields.specs.Kinds.{is_text, number_octets, spelling, IsWithin, is_sized}
use Rattle.octet_fields.specs.Reading.{◌>>=◌, number_at, text_until, text_at, taken_at, counted_at, parameters_at, passing, content_at}
use Rattle.octet_fields.specs.Laws.{MayPrecede, Stands}
use Rattle.octet_fields.proofs.Octets.{IsOctets-drop, IsOctets-take, IsOctets-before, IsOctets-behind, bind_ok, ok_is, guard_ok}
use Rattle.octet_fields.proofs.Parameters.{parameters_take, parameters_again}

-- what was read, and the octets behind it
abbrev read : {A : Type 0} → A → List ℕ → Result (A × List ℕ) Defect
read x rest = Ok (x, rest)

passing_ok : {A : Type 0} (test : A → Bool) (x y : A × List ℕ) → passing test x ≡ Ok y → (test x.0 ≡ true) × (x ≡ y)
passing_ok test x y e = by (test x.0) refl e
  where
    by : (b : Bool) → test x.0 ≡ b → ◌≡◌ {A = Result _ Defect} (cond b (Ok x) (Err Unfit)) (Ok y) → (test x.0 ≡ true) × (x ≡ y)
    by true is e = (is, ok_is x y e)
    by false is e = absurd cc

passed : {A : Type 0} (test : A → Bool) (x : A) (rest : List ℕ) → test x ≡ true → passing test (x, rest) ≡ Ok (x, rest)
passed test x rest is = rw is refl

-- ---- numbers

record TakesNumber (size : Size) (octets : List ℕ) (x : ℕ × List ℕ) : Type 0 where
  parts : octets ≡ number_octets size x.0 ++ x.1
  small : x.0 < capacity size
  rest : IsOctets x.1

number_takes : (size : Size) (octets : List ℕ) (x : ℕ × List ℕ) → IsOctets octets → number_at size octets ≡ Ok x → TakesNumber size octets x
unfolding number_at
number_takes One (a ∷ octets) x are e =
    let made : ℕ × List ℕ = (a, octets) in
    subst (λ (y : ℕ × List ℕ). TakesNumber One (a ∷ octets) y) (ok_is made x e)
    (record { parts = refl; small = are 0; rest = IsOctets-drop 1 (a ∷ octets) are })
number_takes Two (a ∷ b ∷ octets) x are e =
    let digits : List ℕ = a ∷ b ∷ [] in
    let made : ℕ × List ℕ = (from_be_bytes w16 digits, octets) in
    subst (λ (y : ℕ × List ℕ). TakesNumber Two (a ∷ b ∷ octets) y) (ok_is made x e) (record {
      parts = ap (λ (front : List ℕ). front ++ octets) (sym (be_bytes_2 digits _ refl (IsOctets-take 2 (a ∷ b ∷ octets) are) refl));
      small = omega (arith, are 0, are 1);
      rest = IsOctets-drop 2 (a ∷ b ∷ octets) are;
    })
number_takes Four (a ∷ b ∷ c ∷ d ∷ octets) x are e =
    let digits : List ℕ = a ∷ b ∷ c ∷ d ∷ [] in
    let made : ℕ × List ℕ = (from_be_bytes w32 digits, octets) in
    subst (λ (y : ℕ × List ℕ). TakesNumber Four (a ∷ b ∷ c ∷ d ∷ octets) y) (ok_is made x e) (record {
      parts = ap (λ (front : List ℕ). front ++ octets) (sym (be_bytes_4 digits _ refl (IsOctets-take 4 (a ∷ b ∷ c ∷ d ∷ octets) are) refl));
      small = omega (arith, are 0, are 1, are 2, are 3);
      rest = IsOctets-drop 4 (a ∷ b ∷ c ∷ d ∷ octets) are;
    })
number_takes Eight (a ∷ b ∷ c ∷ d ∷ e' ∷ f ∷ g ∷ h ∷ octets) x are e =
    let digits : List ℕ = a ∷ b ∷ c ∷ d ∷ e' ∷ f ∷ g ∷ h ∷ [] in
    let made : ℕ × List ℕ = (from_be_bytes w64 digits, octets) in
    subst (λ (y : ℕ × List ℕ). TakesNumber Eight (a ∷ b ∷ c ∷ d ∷ e' ∷ f ∷ g ∷ h ∷ octets) y) (ok_is made x e) (record {
      parts = ap (λ (front : List ℕ). front ++ octets) (sym (be_bytes_8 digits _ refl (IsOctets-take 8 (a ∷ b ∷ c ∷ d ∷ e' ∷ f ∷ g ∷ h ∷ octets) are) refl));
      small = omega (arith, are 0, are 1, are 2, are 3, are 4, are 5, are 6, are 7);
      rest = IsOctets-drop 8 (a ∷ b ∷ c ∷ d ∷ e' ∷ f ∷ g ∷ h ∷ octets) are;
    })
number_takes size octets x are e = absurd cc

number_again : (size : Size) (number : ℕ) (rest : List ℕ) → number < capacity size → number_at size (number_octets size number ++ rest) ≡ Ok (number, rest)
unfolding number_at
number_again One number rest small = refl
number_again Two number rest small = ap (λ (n : ℕ). read n rest) (from_be_bytes-to_be_bytes_2 number small)
number_again Four number rest small = ap (λ (n : ℕ). read n rest) (from_be_bytes-to_be_bytes_4 number small)
number_again Eight number rest small = ap (λ (n : ℕ). read n rest) (from_be_bytes-to_be_bytes_8 number small)

pub is_between-tells : (least most number : ℕ) → is_between least most number ≡ true → (least ≤ number) × (number ≤ most)
is_between-tells least most number test =
    let parts = and_parts (leb least number) (leb number most) test in
    (leb-true _ _ parts.0, leb-true _ _ parts.1)

pub is_between-told : (least most number : ℕ) → least ≤ number → number ≤ most → is_between least most number ≡ true
is_between-told least most number low high = and_from _ _ (le-leb _ _ low) (le-leb _ _ high)

-- ---- texts that a zero ends

pub is_text-told : (limit : ℕ) (text : List ℕ) → IsText limit text → is_text limit text ≡ true
is_text-told limit text is =
    and_from _ _ (lt-ltb _ _ is.short) (ap not (list_any_none (λ octet. eqb octet 0) text
    (λ k d below. ne_eqb (get_or text k d) 0 (λ zero_there. absurd (omega (arith, zero_there, is.no_zero k d below))))))

-- the octets before the first zero are a text
pub IsText-before : (limit : ℕ) (octets : List ℕ) (place : ℕ) → position (λ octet. eqb octet 0) (take limit octets) ≡ Some place →
    IsText limit (take place octets)
IsText-before limit octets place found =
    let first = position-Some (λ octet. eqb octet 0) (take limit octets) place 1 found in
    let near : place < min limit (length octets) = omega (arith, first.0, length-take limit octets) in
    record {
      short = omega (arith, length-take place octets);
      no_zero = All-from_get_or (λ octet. 0 < octet) (take place octets) 1 (λ k below.
          let before : k < place = omega (arith, length-take place octets) in
          let inside : k < limit = omega arith in
          let nonzero = eqb-false (get_or (take limit octets) k 1) 0 (first.2 k before) in
          let same : get_or (take place octets) k 1 ≡ get_or (take limit octets) k 1 = get_or-take place octets k 1 before ∙ sym
          (get_or-take limit octets k 1 inside) in
          rw same (omega (arith, nonzero)));
    }

-- What a reader took from the front: a field that stands there, and the octets behind it.
pub record Takes (kind : Kind) (octets : List ℕ) (x : Content kind × List ℕ) : Type 0 where
  pub stands : Stands kind octets x.0 x.1
  pub rest : IsOctets x.1

-- the text or the octets that stand in a field are octets too
abbrev pub HoldsOctets : (kind : Kind) → Content kind → Type 0
HoldsOctets (Number size test) number = Unit {0}
HoldsOctets (Text limit) text = IsOctets text
HoldsOctets (Counted size most test) octets = IsOctets octets
HoldsOctets (Parameters most) tlvs = Unit {0}

pub holds_octets : (kind : Kind) (octets : List ℕ) (c : Content kind) (rest : List ℕ) → IsOctets octets → Stands kind octets c rest → HoldsOctets kind c
holds_octets (Number size test) octets c rest are stands = tt
holds_octets (Text limit) octets c rest are stands =
    IsOctets-before c (0 ∷ []) (IsOctets-before (c ++ 0 ∷ []) rest (subst IsOctets stands.parts are))
holds_octets (Counted size most test) octets c rest are stands =
    IsOctets-behind (number_octets size (length c)) c (IsOctets-before (number_octets size (length c) ++ c) rest (subst IsOctets stands.parts are))
holds_octets (Parameters most) octets c rest are stands = tt

text_takes : (limit : ℕ) (octets : List ℕ) (found : Option ℕ) (x : List ℕ × List ℕ) → IsOctets octets →
    position (λ octet. eqb octet 0) (take limit octets) ≡ found → text_until limit octets found ≡ Ok x →
    Takes (Text limit) octets x
text_takes limit octets None x are found e = neither (leb limit (length octets)) e
  where
    neither : (b : Bool) → ◌≡◌ {A = Result (List ℕ × List ℕ) Defect} (cond b (Err Long) (Err Cut)) (Ok x) → Takes (Text limit) octets x
    neither true e = absurd cc
    neither false e = absurd cc
text_takes limit octets (Some place) x are found e =
    let first = position-Some (λ octet. eqb octet 0) (take limit octets) place 1 found in
    let near : place < min limit (length octets) = omega (arith, first.0, length-take limit octets) in
    let zero_there : get_or octets place 1 ≡ 0 = sym (get_or-take limit octets place 1 (omega arith)) ∙ eqb-true _ _ first.1 in
    let parts : octets ≡ (take place octets ++ 0 ∷ []) ++ drop (suc place) octets =
    sym (take-append-drop place octets)
    ∙ ap (λ (rest : List ℕ). take place octets ++ rest)
    (drop-cons octets place 1 (omega arith) ∙ ap (λ (octet : ℕ). octet ∷ drop (suc place) octets) zero_there)
    ∙ sym (append_assoc (take place octets) (0 ∷ []) (drop (suc place) octets)) in
    let made : List ℕ × List ℕ = (take place octets, drop (suc place) octets) in
    subst (λ (y : List ℕ × List ℕ). Takes (Text limit) octets y) (ok_is made x e) (record {
      stands = record { within = IsText-before limit octets place found; parts = parts; last = tt };
      rest = IsOctets-drop (suc place) octets are;
    })

text_again : (limit : ℕ) (text rest : List ℕ) → IsText limit text → text_at limit ((text ++ 0 ∷ []) ++ rest) ≡ Ok (text, rest)
unfolding text_at
text_again limit text rest is =
    let octets : List ℕ = (text ++ 0 ∷ []) ++ rest in
    let apart : octets ≡ text ++ 0 ∷ rest = append_assoc text (0 ∷ []) rest in
    let size : length octets ≡ length text + 1 + length rest = omega (arith, length-append (text ++ 0 ∷ []) rest, length-append text (0 ∷ [])) in
    let inside : length text < length (take limit octets) = omega (arith, length-take limit octets, size, is.short) in
    let before : (k : ℕ) → k < length text → eqb (get_or (take limit octets) k 1) 0 ≡ false = λ k below.
    let there : get_or (take limit octets) k 1 ≡ get_or text k 1 = get_or-take limit octets k 1 (omega (arith, is.short)) ∙ ap
    (λ (xs : List ℕ). get_or xs k 1) apart ∙ get_or-append text (0 ∷ rest) 1 k below in
    ne_eqb (get_or (take limit octets) k 1) 0 (λ zero_there. absurd (omega (arith, there, zero_there, is.no_zero k 1 below))) in
    let there : get_or (take limit octets) (length text) 1 ≡ 0 = get_or-take limit octets (length text) 1 is.short ∙ ap
    (λ (xs : List ℕ). get_or xs (length text) 1) apart ∙ get_or-append_seam text 0 rest 1 in
    let first : position_or_len (λ octet. eqb octet 0) (take limit octets) ≡ length text = position_or_len_is (λ octet. eqb octet 0)
    (take limit octets) (length text) 1 (omega arith) before (λ below. eq-eqb _ _ there) in
    let found : position (λ octet. eqb octet 0) (take limit octets) ≡ Some (length text) =
    rw (first, lt-ltb (length text) (length (take limit octets)) inside) refl in
    let front : take (length text) octets ≡ text = ap (take (length text)) apart ∙ take_at text (0 ∷ rest) (length text) refl in
    let behind : drop (suc (length text)) octets ≡ rest = drop_at (text ++ 0 ∷ []) rest (suc (length text)) (omega (arith, length-append text (0 ∷ []))) in
    ap (text_until limit octets) found ∙ rw (front, behind) refl

-- ---- octets behind their number

record TakesCounted (size : Size) (most : ℕ) (octets : List ℕ) (x : List ℕ × List ℕ) : Type 0 where
  parts : octets ≡ (number_octets size (length x.0) ++ x.0) ++ x.1
  few : length x.0 ≤ most
  rest : IsOctets x.1

taken_from : (size : Size) (most count : ℕ) (octets more : List ℕ) (x : List ℕ × List ℕ) → octets ≡ number_octets size count ++ more →
    IsOctets more → taken_at most count more ≡ Ok x →
    TakesCounted size most octets x
unfolding taken_at
taken_from size most count octets more x parts are e =
    let few = guard_ok (ltb most count) Long (cond (ltb (length more) count) (Err Few) (Ok (take count more, drop count more))) x e in
    let enough = guard_ok (ltb (length more) count) Few (Ok (take count more, drop count more)) x few.1 in
    let below : count ≤ most = ltb-false _ _ few.0 in
    let long : count ≤ length more = ltb-false _ _ enough.0 in
    let size_is : length (take count more) ≡ count = omega (arith, length-take count more) in
    let made : List ℕ × List ℕ = (take count more, drop count more) in
    let apart : number_octets size count ++ more ≡ (number_octets size count ++ take count more) ++ drop count more =
    ap (λ (r : List ℕ). number_octets size count ++ r) (sym (take-append-drop count more)) ∙ sym
    (append_assoc (number_octets size count) (take count more) (drop count more)) in
    subst (λ (y : List ℕ × List ℕ). TakesCounted size most octets y) (ok_is made x enough.1) (record {
      parts = parts ∙ apart ∙ ap (λ (n : ℕ). (number_octets size n ++ take count more) ++ drop count more) (sym size_is);
      few = omega (arith, size_is, below);
      rest = IsOctets-drop count more are;
    })

counted_takes : (size : Size) (most : ℕ) (octets : List ℕ) (x : List ℕ × List ℕ) → IsOctets octets → counted_at size most octets ≡ Ok x →
    TakesCounted size most octets x
counted_takes size most octets x are e =
    let b = bind_ok (number_at size octets) (λ y. taken_at most y.0 y.1) x e in
    let front = number_takes size octets b.0 are b.1 in
    taken_from size most b.0.0 octets b.0.1 x front.parts front.rest b.2

counted_again : (size : Size) (most : ℕ) (text rest : List ℕ) → length text < capacity size → length text ≤ most →
    counted_at size most ((number_octets size (length text) ++ text) ++ rest) ≡ Ok (text, rest)
unfolding taken_at
counted_again size most text rest small few =
    ap (counted_at size most) (append_assoc (number_octets size (length text)) text rest)
    ∙ ap (λ (r : Result (ℕ × List ℕ) Defect). r >>= λ x. taken_at most x.0 x.1) (number_again size (length text) (text ++ rest) small)
    ∙ rw (
      le-ltb most (length text) few,
      le-ltb (length (text ++ rest)) (length text) (omega (arith, length-append text rest)),
      take_at text rest (length text) refl,
      drop_at text rest (length text) refl,
    ) refl

-- ---- a field of any kind

pub content_takes : (kind : Kind) (octets : List ℕ) (x : Content kind × List ℕ) → IsOctets octets → content_at kind octets ≡ Ok x → Takes kind octets x
unfolding content_at text_at
content_takes (Number size test) octets x are e =
    let b = bind_ok (number_at size octets) (λ y. passing test y) x e in
    let front = number_takes size octets b.0 are b.1 in
    let passes = passing_ok test b.0 x b.2 in
    subst (λ (y : ℕ × List ℕ). Takes (Number size test) octets y) passes.1 (record {
      stands = record { within = (front.small, passes.0); parts = front.parts; last = tt };
      rest = front.rest;
    })
content_takes (Text limit) octets x are e = text_takes limit octets (position (λ octet. eqb octet 0) (take limit octets)) x are refl e
content_takes (Counted size most test) octets x are e =
    let b = bind_ok (counted_at size most octets) (λ y. passing test y) x e in
    let front = counted_takes size most octets b.0 are b.1 in
    let passes = passing_ok test b.0 x b.2 in
    subst (λ (y : List ℕ × List ℕ). Takes (Counted size most test) octets y) passes.1 (record {
      stands = record { within = (front.few, passes.0); parts = front.parts; last = tt };
      rest = front.rest;
    })
content_takes (Parameters most) octets x are e =
    let taken = parameters_take most octets x are e in
    record {
      stands = record { within = taken.within; parts = taken.parts; last = taken.rest };
      rest = subst IsOctets (sym taken.rest) (λ i. omega arith);
    }

pub content_again : (kind : Kind) (c : Content kind) (rest : List ℕ) → is_sized kind ≡ true → MayPrecede kind rest → IsWithin kind c →
    content_at kind (spelling kind c ++ rest) ≡ Ok (c, rest)
unfolding content_at
content_again (Number size test) c rest sized last within =
    ap (λ (r : Result (ℕ × List ℕ) Defect). r >>= λ x. passing test x) (number_again size c rest within.0) ∙ passed test c rest within.1
content_again (Text limit) c rest sized last within = text_again limit c rest within
content_again (Counted size most test) c rest sized last within =
    ap (λ (r : Result (List ℕ × List ℕ) Defect). r >>= λ x. passing test x)
    (counted_again size most c rest (omega (arith, within.0, ltb-true _ _ sized)) within.0) ∙ passed test c rest within.1
content_again (Parameters most) c rest sized last within =
    ap (λ (r : List ℕ). parameters_at most (optional_octets c ++ r)) last
    ∙ ap (parameters_at most) (append-nil (optional_octets c))
    ∙ parameters_again most c (leb-true _ _ sized) within
    ∙ ap (λ (r : List ℕ). read c r) (sym last)

-- what stands at the front is read
pub stands_again : (kind : Kind) (octets : List ℕ) (c : Content kind) (rest : List ℕ) → is_sized kind ≡ true → Stands kind octets c rest →
    content_at kind octets ≡ Ok (c, rest)
stands_again kind octets c rest sized stands =
    ap (content_at kind) stands.parts ∙ content_again kind c rest sized stands.last stands.within
