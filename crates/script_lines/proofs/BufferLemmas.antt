-- What a buffer holds, as a part of its octets, and what a search in it found.
use Rattle.std.proofs.Common.{◌≡◌, ℕ, ◌+◌, ◌-◌, ◌≤◌, ◌<◌, ◌==◌, Bool, true, false, cond, List, ◌++◌, length, get_or, take, drop}
use Rattle.std.proofs.Common.{slice_range, position, Some, None, arith, refl, sym, ap, ◌∙◌, inl, inr, eqb-true, ltb-false}
use Rattle.std.proofs.Common.{length-take, length-drop}
use Rattle.std.proofs.lemmas.Bool.{cases_lt, eqb-false}
use Rattle.std.proofs.lemmas.List.{drop-drop, drop-take, same_lists, take_all, get_or-take, get_or-drop}
use Rattle.std.proofs.lemmas.List.Quantifiers.{position-Some}
use Rattle.std.proofs.lemmas.List.Sums.{fails_before_first}
use Rattle.std.proofs.lemmas.Option.{slice_get-get_or}
use Rattle.std.proofs.Math.Seq.{take-add}
use Rattle.std.specs.List.{CopiedTo, position_or_len}
use Rattle.script_lines.specs.Lines.{IsOneLine, BeginsWithLine}

-- ---- the part that is held

pub length-slice_range : (xs : List ℕ) (start end : ℕ) → end ≤ length xs → length (slice_range xs start end) ≡ end - start
length-slice_range xs start end within = omega (arith, length-take (end - start) (drop start xs), length-drop start xs)

-- what is held after the front was taken off
pub slice_range-drop : (xs : List ℕ) (start count end : ℕ) → start + count ≤ end → slice_range xs (start + count) end ≡ drop count (slice_range xs start end)
slice_range-drop xs start count end within =
    let left : end - start ≡ count + (end - (start + count)) = omega arith in
    sym (ap (λ n. drop count (take n (drop start xs))) left ∙ drop-take count (end - (start + count)) (drop start xs) ∙ ap
    (take (end - (start + count))) (drop-drop count start xs))

-- what was held stands at the front once it was copied there
pub take-copied : (old moved : List ℕ) (start end : ℕ) → end ≤ length old → length moved ≡ length old →
    CopiedTo old moved start 0 (end - start) →
    take (end - start) moved ≡ slice_range old start end
take-copied old moved start end within same copied =
    let long : length (take (end - start) moved) ≡ end - start = omega (arith, length-take (end - start) moved) in
    same_lists _ _ (long ∙ sym (length-slice_range old start end within))
    (λ k d lt. get_or-take (end - start) moved k d (omega arith) ∙ copied k d (omega arith) (omega arith)
    ∙ ap (λ i. get_or old (start + i) d) (let e : k - 0 ≡ k = omega arith in e)
    ∙ sym (get_or-take (end - start) (drop start old) k d (omega arith) ∙ get_or-drop start old k d))

-- what is held after so many octets came behind it
pub slice_range-filled : (held filled : List ℕ) (front count : ℕ) → take front filled ≡ held →
    slice_range filled 0 (front + count) ≡ held ++ take count (drop front filled)
slice_range-filled held filled front count same =
    let all : front + count - 0 ≡ front + count = omega arith in
    ap (λ n. take n filled) all ∙ take-add front count filled ∙ ap (λ xs. xs ++ take count (drop front filled)) same

-- ---- the search for a line feed

-- what was searched before, and what is searched now
one_line_to : (held : List ℕ) (searched count : ℕ) → IsOneLine (take searched held) →
    ((k d : ℕ) → k < count → (get_or (drop searched held) k d == 10) ≡ false) →
    IsOneLine (take (searched + count) held)
one_line_to held searched count before now k d lt =
    let here : k < searched + count = omega (arith, length-take (searched + count) held) in
    let inside : k < length held = omega (arith, length-take (searched + count) held) in
    rw (get_or-take (searched + count) held k d here)
    (elim (cases_lt k searched) [
      | inl lt ↦ rw (← get_or-take searched held k d lt) (before k d (omega (arith, length-take searched held)))
      | inr le ↦
          let place : searched + (k - searched) ≡ k = omega arith in
          let other = now (k - searched) d (omega arith) in
          eqb-false _ _ (ap (λ i. get_or held i d == 10) (sym place) ∙ ap (λ x. x == 10) (sym (get_or-drop searched held (k - searched) d)) ∙ other)
    ])

pub line_found : (held : List ℕ) (searched at : ℕ) → searched ≤ length held → IsOneLine (take searched held) →
    Some at ≡ position (λ octet. octet == 10) (drop searched held) →
    BeginsWithLine (searched + at) held × (searched + at < length held)
line_found held searched at within before e =
    let found = λ (d : ℕ). position-Some (λ octet. octet == 10) (drop searched held) at d (sym e) in
    let inside : searched + at < length held = omega (arith, (found 0).0, length-drop searched held) in
    let feed : get_or held (searched + at) 0 ≡ 10 = sym (get_or-drop searched held at 0) ∙ eqb-true _ _ (found 0).1 in (
      record {
        line = one_line_to held searched at before (λ k d lt. (found d).2 k lt);
        feed = slice_get-get_or held (searched + at) 0 inside
            ∙ ap Some feed;
      },
      inside,
    )

none_chosen : (test : Bool) (n : ℕ) → None ≡ cond test (Some n) None → test ≡ false
none_chosen true n e = absurd cc
none_chosen false n e = refl

pub no_line_found : (held : List ℕ) (searched : ℕ) → searched ≤ length held → IsOneLine (take searched held) →
    None ≡ position (λ octet. octet == 10) (drop searched held) →
    IsOneLine held
no_line_found held searched within before e =
    let past = ltb-false _ _ (none_chosen _ (position_or_len (λ octet. octet == 10) (drop searched held)) e) in
    let all : searched + (length held - searched) ≡ length held = omega arith in
    let one = one_line_to held searched (length held - searched) before
    (λ k d lt. fails_before_first (λ octet. octet == 10) (drop searched held) k d (omega (arith, past, length-drop searched held))) in
    rw (← take_all (searched + (length held - searched)) held (omega arith)) one
