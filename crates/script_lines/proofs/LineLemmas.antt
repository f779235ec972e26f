-- How a text falls into lines.
use Rattle.std.proofs.Common.{◌≡◌, ◌≢◌, ℕ, ◌+◌, ◌<◌, ◌≤◌, suc, List, [], ◌∷◌, ◌++◌, length, get_or, take, drop, refl, sym, ap, ◌∙◌, arith, append_assoc}
use Rattle.std.proofs.lemmas.Bool.Decides.{nat_tests}
use Rattle.std.proofs.lemmas.List.{drop_more, take-append-drop}
use Rattle.std.proofs.lemmas.Option.{slice_get_within, get_or_from_slice_get}
use Rattle.std.proofs.lemmas.List.Elements.{All-head, All-tail}
use Rattle.script_lines.specs.Lines.{lines_of, onto_first, IsOneLine, BeginsWithLine, BeginsTooLong, LinesAreRead}

one_head : (octet : ℕ) (octets : List ℕ) → IsOneLine (octet ∷ octets) → octet ≢ 10
one_head octet octets one = All-head (λ x. x ≢ 10) octet octets one

one_tail : (octet : ℕ) (octets : List ℕ) → IsOneLine (octet ∷ octets) → IsOneLine octets
one_tail octet octets one = All-tail (λ x. x ≢ 10) octet octets one

-- an octet that is no line feed goes onto the first line
lines_of-other : (octet : ℕ) (octets : List ℕ) → octet ≢ 10 → lines_of (octet ∷ octets) ≡ onto_first octet (lines_of octets)
lines_of-other octet octets other = grind (arith, nat_tests)

pub lines_of-next : (line rest : List ℕ) → IsOneLine line → lines_of (line ++ 10 ∷ rest) ≡ line ∷ lines_of rest
lines_of-next [] rest one = refl
lines_of-next (octet ∷ line) rest one =
    rw (lines_of-other octet (line ++ 10 ∷ rest) (one_head octet line one), lines_of-next line rest (one_tail octet line one)) refl

pub lines_of-last : (line : List ℕ) → line ≢ [] → IsOneLine line → lines_of line ≡ line ∷ []
lines_of-last [] some one = absurd (some refl)
lines_of-last (octet ∷ []) some one = lines_of-other octet [] (one_head octet [] one)
lines_of-last (octet ∷ next ∷ line) some one =
    rw (
      lines_of-other octet (next ∷ line) (one_head octet (next ∷ line) one),
      lines_of-last (next ∷ line)
          (λ (e : next ∷ line ≡ []). absurd cc) (one_tail octet (next ∷ line) one),
    ) refl

-- the first line is there, and has so many octets or more
pub record BeginsWith (count : ℕ) (lines : List (List ℕ)) : Type 0 where
  pub first : List ℕ
  pub others : List (List ℕ)
  pub parts : lines ≡ first ∷ others
  pub long : count ≤ length first

onto_first-begins : (octet : ℕ) (lines : List (List ℕ)) → BeginsWith 1 (onto_first octet lines)
onto_first-begins octet [] = record { first = octet ∷ []; others = []; parts = refl; long = omega arith }
onto_first-begins octet (line ∷ lines) = record { first = octet ∷ line; others = lines; parts = refl; long = omega arith }

onto_first-longer : (octet count : ℕ) (lines : List (List ℕ)) → BeginsWith count lines → BeginsWith (suc count) (onto_first octet lines)
onto_first-longer octet count lines h = record { first = octet ∷ h.first; others = h.others; parts = ap (onto_first octet) h.parts; long = omega arith }

pub lines_of-begins : (octet : ℕ) (octets more : List ℕ) → IsOneLine (octet ∷ octets) → BeginsWith (suc (length octets)) (lines_of (octet ∷ octets ++ more))
lines_of-begins octet [] more one = rw (lines_of-other octet more (one_head octet [] one)) (onto_first-begins octet (lines_of more))
lines_of-begins octet (next ∷ octets) more one =
    rw (lines_of-other octet (next ∷ octets ++ more) (one_head octet (next ∷ octets) one))
    (onto_first-longer octet _ _ (lines_of-begins next octets more (one_tail octet (next ∷ octets) one)))

pub lines_of-too_long : (octets more : List ℕ) → BeginsTooLong octets →
    (line : List ℕ) × (lines : List (List ℕ)) × (lines_of (octets ++ more) ≡ line ∷ lines) × (20000 < length line)
lines_of-too_long [] more h = absurd (omega (arith, h.many))
lines_of-too_long (octet ∷ octets) more h =
    let begins = lines_of-begins octet octets more h.line in
    (begins.first, begins.others, begins.parts, omega (arith, h.many, begins.long))

-- a whole line at the front is the first line, whatever follows
pub lines_of-begins_with : (count : ℕ) (octets more : List ℕ) → BeginsWithLine count octets →
    lines_of (octets ++ more) ≡ take count octets ∷ lines_of (drop (count + 1) octets ++ more)
lines_of-begins_with count octets more h =
    let within : count < length octets = slice_get_within octets count 10 h.feed in
    let feed : get_or octets count 0 ≡ 10 = get_or_from_slice_get octets count 10 0 h.feed in
    let behind : drop count octets ≡ 10 ∷ drop (count + 1) octets = drop_more octets count 0 within ∙ ap (λ x. x ∷ drop (count + 1) octets) feed in
    let parts : octets ≡ take count octets ++ 10 ∷ drop (count + 1) octets = sym (take-append-drop count octets) ∙ ap (λ xs. take count octets ++ xs) behind in
    ap (λ xs. lines_of (xs ++ more)) parts
    ∙ ap lines_of (append_assoc (take count octets) (10 ∷ drop (count + 1) octets) more)
    ∙ lines_of-next (take count octets) (drop (count + 1) octets ++ more) h.line

pub lines_are_read : LinesAreRead
lines_are_read = record { none = refl; last = lines_of-last; next = lines_of-next; begins = lines_of-begins_with; too_long = lines_of-too_long }
