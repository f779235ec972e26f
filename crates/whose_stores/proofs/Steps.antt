-- What each search finds from one place on.
use Rattle.std.proofs.Common.{◌≡◌, ℕ, zero, suc, ◌+◌, ◌<◌, ◌≤◌, Bool, true, false, List, [], ◌∷◌, drop, length, get_or, nat_lt, Option, None, Some}
use Rattle.std.proofs.Common.{refl, sym, ap, ◌∙◌, arith}
use Rattle.std.specs.Option.{option_or}
use Rattle.std.proofs.lemmas.List.{drop_all}
use Rattle.whose_stores.specs.declared.broken.Rule.{Rule}
use Rattle.whose_stores.specs.declared.difference.Difference.{Difference}
use Rattle.whose_stores.specs.declared.difference.Difference.TheVariants.{Older}
use Rattle.whose_stores.specs.declared.found.Found.{Found}
use Rattle.whose_stores.specs.declared.found.Whose.{Whose}
use Rattle.whose_stores.specs.declared.mark.Mark.{Mark}
use Rattle.whose_stores.specs.Marks.{begun_in, first_begun, first_going, first_mark, is_begun, is_going, mark_in, mark_or}
use Rattle.whose_stores.specs.Rules.{broken, first_broken, first_older}

pub rest_from : {X : Type 0} (xs : List X) (at : ℕ) (x d : X) → at < length xs → x ≡ get_or xs at d → drop at xs ≡ x ∷ drop (at + 1) xs
rest_from [] at x d low is = absurd (omega arith)
rest_from (y ∷ xs) zero x d low is = ap (λ z. z ∷ xs) (sym is)
rest_from (y ∷ xs) (suc at) x d low is = let next : suc at + 1 ≡ suc (at + 1) = omega arith in rw next (rest_from xs at x d (omega arith) is)

module _ (found : List Found) (at : ℕ) (one : Found) (low : at < length found) (is : one ≡ get_or found at one) where
  here : drop at found ≡ one ∷ drop (at + 1) found
  here = rest_from found at one one low is

  pub going_here : first_going (at + 1) (drop at found) ≡ first_going 1 found → is_going one ≡ true → Some (at + 1) ≡ first_going 1 found
  going_here so goes = sym (ap (first_going (at + 1)) here ∙ rw goes) ∙ so

  pub going_later : first_going (at + 1) (drop at found) ≡ first_going 1 found → is_going one ≡ false
      → first_going (at + 1 + 1) (drop (at + 1) found) ≡ first_going 1 found
  going_later so rests = sym (ap (first_going (at + 1)) here ∙ rw rests) ∙ so

  pub begun_here : first_begun (at + 1) (drop at found) ≡ first_begun 1 found → is_begun one ≡ true → Some (at + 1) ≡ first_begun 1 found
  begun_here so goes = sym (ap (first_begun (at + 1)) here ∙ rw goes) ∙ so

  pub begun_later : first_begun (at + 1) (drop at found) ≡ first_begun 1 found → is_begun one ≡ false
      → first_begun (at + 1 + 1) (drop (at + 1) found) ≡ first_begun 1 found
  begun_later so rests = sym (ap (first_begun (at + 1)) here ∙ rw rests) ∙ so

  pub mark_here : (whose : Whose) → first_mark (at + 1) (drop at found) ≡ first_mark 1 found → mark_in one ≡ Some whose
      → Some (record { first = at + 1; cluster = whose.cluster }) ≡ first_mark 1 found
  mark_here whose so says = sym (ap (first_mark (at + 1)) here ∙ rw says) ∙ so

  pub mark_later : first_mark (at + 1) (drop at found) ≡ first_mark 1 found → mark_in one ≡ None
      → first_mark (at + 1 + 1) (drop (at + 1) found) ≡ first_mark 1 found
  mark_later so none = sym (ap (first_mark (at + 1)) here ∙ rw none) ∙ so

  pub broken_here : (rule : Rule) (d : Difference) → first_broken rule found (at + 1) (drop at found) ≡ first_broken rule found 1 found
      → broken rule found (at + 1) one ≡ Some d → Some d ≡ first_broken rule found 1 found
  broken_here rule d so breaks = sym (ap (first_broken rule found (at + 1)) here ∙ ap (λ o. option_or o (first_broken rule found (at + 1 + 1) (drop (at + 1) found))) breaks) ∙ so

  pub broken_later : (rule : Rule) → first_broken rule found (at + 1) (drop at found) ≡ first_broken rule found 1 found
      → broken rule found (at + 1) one ≡ None → first_broken rule found (at + 1 + 1) (drop (at + 1) found) ≡ first_broken rule found 1 found
  broken_later rule so none = sym (ap (first_broken rule found (at + 1)) here ∙ ap (λ o. option_or o (first_broken rule found (at + 1 + 1) (drop (at + 1) found))) none) ∙ so

  module _ (by : ℕ) (named : List ℕ) (incarnation : ℕ) (low_too : at < length named) (is_too : incarnation ≡ get_or named at incarnation)
      (so : first_older by (at + 1) (drop at found) (drop at named) ≡ first_older by 1 found named) where
    both_here : first_older by (at + 1) (drop at found) (drop at named) ≡ first_older by (at + 1) (one ∷ drop (at + 1) found)
        (incarnation ∷ drop (at + 1) named)
    both_here = ap (λ fs. first_older by (at + 1) fs (drop at named)) here
        ∙ ap (first_older by (at + 1) (one ∷ drop (at + 1) found)) (rest_from named at incarnation incarnation low_too is_too)

    pub older_here : nat_lt (begun_in one) incarnation ≡ true → Some (Older (at + 1) by incarnation (begun_in one)) ≡ first_older by 1 found named
    older_here behind = sym (both_here ∙ rw behind) ∙ so

    pub older_later : nat_lt (begun_in one) incarnation ≡ false
        → first_older by (at + 1 + 1) (drop (at + 1) found) (drop (at + 1) named) ≡ first_older by 1 found named
    older_later level = sym (both_here ∙ rw level) ∙ so

-- ---- at the end nothing is found

module _ (found : List Found) (at : ℕ) (end : length found ≤ at) where
  pub none_begun : first_begun (at + 1) (drop at found) ≡ first_begun 1 found → None ≡ first_begun 1 found
  none_begun so = sym (ap (first_begun (at + 1)) (drop_all at found end)) ∙ so

  pub none_going : first_going (at + 1) (drop at found) ≡ first_going 1 found → None ≡ first_going 1 found
  none_going so = sym (ap (first_going (at + 1)) (drop_all at found end)) ∙ so

  pub none_marked : first_mark (at + 1) (drop at found) ≡ first_mark 1 found → None ≡ first_mark 1 found
  none_marked so = sym (ap (first_mark (at + 1)) (drop_all at found end)) ∙ so

  pub none_broken : (rule : Rule) → first_broken rule found (at + 1) (drop at found) ≡ first_broken rule found 1 found
      → None ≡ first_broken rule found 1 found
  none_broken rule so = sym (ap (first_broken rule found (at + 1)) (drop_all at found end)) ∙ so

older_none : (by node : ℕ) (found : List Found) → first_older by node found [] ≡ None
older_none by node [] = refl
older_none by node (one ∷ found) = refl

module _ (found : List Found) (named : List ℕ) (by at : ℕ) (so : first_older by (at + 1) (drop at found) (drop at named) ≡ first_older by 1 found named) where
  pub no_more_nodes : length found ≤ at → None ≡ first_older by 1 found named
  no_more_nodes end = sym (ap (λ fs. first_older by (at + 1) fs (drop at named)) (drop_all at found end)) ∙ so

  pub no_more_named : length named ≤ at → None ≡ first_older by 1 found named
  no_more_named end = sym (ap (first_older by (at + 1) (drop at found)) (drop_all at named end) ∙ older_none by (at + 1) (drop at found)) ∙ so
