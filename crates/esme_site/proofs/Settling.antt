-- What was put, and what was lost, one act after another.
use Rattle.std.proofs.Common.{◌≡◌, ℕ, List, [], ◌∷◌, ◌++◌, Result, Ok, Err, refl, sym, ap, ◌∙◌, subst, append_assoc, inl, inr}
use Rattle.std.proofs.Common.{◌+◌, ◌<◌, suc, drop, get_or, length, add-one}
use Rattle.std.proofs.Math.Seq.{drop-cons}
use Rattle.std.proofs.lemmas.List.{append-nil}
use Rattle.std.proofs.lemmas.List.Elements.{Contains-append_left, Contains-append_right}
use Rattle.std.specs.Result.{result_and}
use Rattle.std.specs.Prelude.{Contains, IsOk, OnErr, OnOk}
use Rattle.std.specs.declared.alloc.AllocError.{AllocError}
use Rattle.script_text.specs.Left.{Left}
use Rattle.script_text.specs.Prints.{Print, AtOnce, Late, Delivers, Reports, Gone, Declined, Ungranted}
use Rattle.esme_site.specs.Puts.{HasSettled, IsLost, IsSettledBy}

-- ---- more is lost

lost_as_well : (lost more : List ℕ) → ((number : ℕ) → Contains lost number → Contains more number) → (print : Print) → IsLost lost print → IsLost more print
lost_as_well lost more all (AtOnce number pdu) is = all number is
lost_as_well lost more all (Late number id pdu) is = all number is
lost_as_well lost more all (Delivers number pdu) is = all number is
lost_as_well lost more all (Reports number sequence optional report) is = all number is
lost_as_well lost more all (Gone number) is = all number is
lost_as_well lost more all (Declined number) is = is
lost_as_well lost more all (Ungranted reason) is = is

settled_as_well : (lost more : List ℕ) → ((number : ℕ) → Contains lost number → Contains more number) → (put prints : List Print)
    → IsSettledBy put lost prints → IsSettledBy put more prints
unfolding IsSettledBy
settled_as_well lost more all put [] so = so
settled_as_well lost more all put (print ∷ prints) (inl (others, is, so)) = inl (others, is, settled_as_well lost more all others prints so)
settled_as_well lost more all put (print ∷ prints) (inr (gone, so)) = inr (lost_as_well lost more all print gone, settled_as_well lost more all put prints so)

settled_behind : (first last : List Print) (lost : List ℕ) (prints others : List Print) → IsSettledBy first lost prints → IsSettledBy last lost others
    → IsSettledBy (first ++ last) lost (prints ++ others)
unfolding IsSettledBy
settled_behind first last lost [] others so then = subst (λ (f : List Print). IsSettledBy (f ++ last) lost others) (sym so) then
settled_behind first last lost (print ∷ prints) others (inl (rest, is, so)) then =
    inl (rest ++ last, ap (λ (f : List Print). f ++ last) is, settled_behind rest last lost prints others so then)
settled_behind first last lost (print ∷ prints) others (inr (gone, so)) then = inr (gone, settled_behind first last lost prints others so then)

pub all_settled : (prints : List Print) (lost : List ℕ) → IsSettledBy prints lost prints
unfolding IsSettledBy
all_settled [] lost = refl
all_settled (print ∷ prints) lost = inl (prints, refl, all_settled prints lost)

-- ---- between two states of an outlet

-- These prints were put; or, if the result is an Err, each was put or its session was lost.
pub record IsDone {O : Type 0} (puts : O → List Print → List ℕ → O → Type 0) (r : Result (Unit {0}) AllocError) (prints : List Print) (before after : O)
    : Type 0 where
  pub put : List Print
  pub lost : List ℕ
  pub did : puts before put lost after
  pub settled : IsSettledBy put lost prints
  pub whole : IsOk r → (put ≡ prints) × (lost ≡ [])

-- an Err of one is an Err of both
pub both_ok : (first last both : Result (Unit {0}) AllocError) → both ≡ result_and first last → IsOk both → IsOk first × IsOk last
both_ok (Ok done) last both is ok = (refl, subst (λ (r : Result (Unit {0}) AllocError). IsOk r) is ok)
both_ok (Err fault) last both is ok = let no = subst (λ (r : Result (Unit {0}) AllocError). IsOk r) is ok in absurd cc

module _ {O : Type 0} (puts : O → List Print → List ℕ → O → Type 0) where
  -- as the clauses of a call say
  pub by_call : (r : Result (Unit {0}) AllocError) (prints : List Print) (before after : O) → OnOk r (puts before prints [] after)
      → OnErr r (HasSettled puts prints before after) → IsDone puts r prints before after
  by_call (Ok done) prints before after did lost =
      record { put = prints; lost = []; did = did; settled = all_settled prints []; whole = λ ok. (refl, refl) }
  by_call (Err fault) prints before after did lost =
      record { put = lost.put; lost = lost.lost; did = lost.did; settled = lost.settled; whole = λ ok. absurd cc }

  pub on_ok : (r : Result (Unit {0}) AllocError) (prints : List Print) (before after : O) → IsDone puts r prints before after
      → OnOk r (puts before prints [] after)
  on_ok (Ok done) prints before after did =
      let whole = did.whole refl in
      subst (λ (put : List Print). puts before put [] after) whole.0 (subst (λ (lost : List ℕ). puts before did.put lost after) whole.1 did.did)
  on_ok (Err fault) prints before after did = tt

  pub on_err : (r : Result (Unit {0}) AllocError) (prints : List Print) (before after : O) → IsDone puts r prints before after
      → OnErr r (HasSettled puts prints before after)
  on_err (Ok done) prints before after did = tt
  on_err (Err fault) prints before after did = record { put = did.put; lost = did.lost; did = did.did; settled = did.settled }

  module _ (rests : (at : O) → puts at [] [] at)
      (follows : (before between after : O) (first last : List Print) (lost more : List ℕ) → puts before first lost between → puts between last more after
      → puts before (first ++ last) (lost ++ more) after) where
    pub nothing_done : (at : O) → IsDone puts (Ok tt) [] at at
    nothing_done at = record { put = []; lost = []; did = rests at; settled = all_settled [] []; whole = λ ok. (refl, refl) }

    -- this, and then that
    pub both_done : (first last both : Result (Unit {0}) AllocError) (prints others : List Print) (before between after : O)
        → (IsOk both → IsOk first × IsOk last) → IsDone puts first prints before between → IsDone puts last others between after
        → IsDone puts both (prints ++ others) before after
    both_done first last both prints others before between after oks one two = record {
      put = one.put ++ two.put;
      lost = one.lost ++ two.lost;
      did = follows before between after one.put two.put one.lost two.lost one.did two.did;
      settled = settled_behind one.put two.put (one.lost ++ two.lost) prints others
          (settled_as_well one.lost (one.lost ++ two.lost) (λ number is. Contains-append_left one.lost two.lost number is) one.put prints one.settled)
          (settled_as_well two.lost (one.lost ++ two.lost) (λ number is. Contains-append_right one.lost two.lost number is) two.put others two.settled);
      whole = λ ok. (
        (λ i. (one.whole (oks ok).0).0 i ++ (two.whole (oks ok).1).0 i),
        (λ i. (one.whole (oks ok).0).1 i ++ (two.whole (oks ok).1).1 i),
      );
    }

-- ---- under way

-- This was done, and what is still to be done is all that was to be done; and it leaves the same.
pub record IsUnderWay {S I O : Type 0} (puts : O → List Print → List ℕ → O → Type 0) (r : Result (Unit {0}) AllocError) (all rest : Left S I Print)
    (before at : O) : Type 0 where
  pub next : rest.next ≡ all.next
  pub printed : List Print
  pub prints : printed ++ rest.prints ≡ all.prints
  pub done : IsDone puts r printed before at

module _ {S I O : Type 0} (puts : O → List Print → List ℕ → O → Type 0) (rests : (at : O) → puts at [] [] at)
    (follows : (before between after : O) (first last : List Print) (lost more : List ℕ) → puts before first lost between → puts between last more after
    → puts before (first ++ last) (lost ++ more) after) where
  pub begun : (all : Left S I Print) (at : O) → IsUnderWay puts (Ok tt) all all at at
  begun all at = record { next = refl; printed = []; prints = refl; done = nothing_done puts rests follows at }

  -- this was done first, and the rest is left
  pub goes_on : (r last both : Result (Unit {0}) AllocError) (all first rest : Left S I Print) (prints : List Print) (before at after : O)
      → both ≡ result_and r last → IsUnderWay puts r all first before at → rest.next ≡ first.next → first.prints ≡ prints ++ rest.prints
      → IsDone puts last prints at after → IsUnderWay puts both all rest before after
  goes_on r last both all first rest prints before at after and so next is did = record {
    next = next ∙ so.next;
    printed = so.printed ++ prints;
    prints = append_assoc so.printed prints rest.prints ∙ ap (λ (p : List Print). so.printed ++ p) (sym is) ∙ so.prints;
    done = both_done puts rests follows r last both so.printed prints before at after (both_ok r last both and) so.done did;
  }

  -- nothing is left
  pub at_end : (r : Result (Unit {0}) AllocError) (all rest : Left S I Print) (before at : O) → IsUnderWay puts r all rest before at → rest.prints ≡ []
      → IsDone puts r all.prints before at
  at_end r all rest before at so none =
      subst (λ (p : List Print). IsDone puts r p before at)
      (sym (append-nil so.printed) ∙ ap (λ (p : List Print). so.printed ++ p) (sym none) ∙ so.prints) so.done

-- what is left of a list behind the one at a place
pub behind_it : {A : Type 0} (xs : List A) (place : ℕ) (x : A) → place < length xs → x ≡ get_or xs place x → drop place xs ≡ x ∷ drop (place + 1) xs
behind_it xs place x below is = drop-cons xs place x below ∙ ap (λ y. y ∷ drop (suc place) xs) (sym is) ∙ ap (λ (n : ℕ). x ∷ drop n xs) (sym (add-one place))
