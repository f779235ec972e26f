-- What a node knows gives a request one answer at most.
use Rattle.std.proofs.Common.{◌≡◌, ℕ, List, Option, Some, None, refl, sym, ◌∙◌, ap, subst}
use Rattle.mc_model.specs.message.Submission.{Submission}
use Rattle.mc_model.specs.message.Decree.{Decree, Kind, Final, Delivered, Expired, Deleted, Undeliverable, Rejected}
use Rattle.mc_model.specs.message.Chain.{taken_in, final_in}
use Rattle.mc_model.specs.node.Actor.{Actor, Request, Submit, Query, Cancel, Waiting, id_in}
use Rattle.mc_model.specs.node.Knowledge.{Knows, KnowsNothing}
use Rattle.mc_model.specs.node.Proposal.{IsOwner, IsMatch}
use Rattle.mc_model.specs.node.Replies.{Answer, Accepted, Shown, Removed, Kept, NotOwner, NotMatched, Unknown, KeepsMessage, FitsSubmit}
use Rattle.mc_model.specs.node.Replies.{FitsQuery, FitsCancel, FitsRequest}
use Rattle.mc_parts.proofs.Known.{knows_one}

-- what is known is not unknown
known_not : (nodes : ℕ) (a : Actor) (id : ℕ) (chain : List Decree) → Knows nodes a.received id chain → KnowsNothing nodes a.received id → ⊥
known_not nodes a id chain known nothing = nothing _ _ known.learned

-- one message was taken
one_taken : (nodes : ℕ) (a : Actor) (id : ℕ) (one other : List Decree) (first second : Submission) → Knows nodes a.received id one →
    Knows nodes a.received id other → taken_in one ≡ Some first → taken_in other ≡ Some second →
    first ≡ second
one_taken nodes a id one other first second knows also is_first is_second =
    let same : Some first ≡ Some second = sym is_first ∙ ap taken_in (knows_one nodes a.received id one other knows also) ∙ is_second in
    cc

-- what deletes a message does not keep it
not_kept : (state : Option Final) (kind : Kind) → state ≡ Some Deleted → KeepsMessage state kind → ⊥
not_kept None kind is kept = cc
not_kept (Some Delivered) kind is kept = cc
not_kept (Some Expired) kind is kept = cc
not_kept (Some Deleted) kind is kept = kept
not_kept (Some Undeliverable) kind is kept = cc
not_kept (Some Rejected) kind is kept = cc

one_submit : (nodes : ℕ) (a : Actor) (id : ℕ) (one other : Answer) → FitsSubmit nodes a id one → FitsSubmit nodes a id other → one ≡ other
one_submit nodes a id Accepted Accepted x y = refl
one_submit nodes a id Accepted other x y = absurd y
one_submit nodes a id one other x y = absurd x

module _ (nodes node : ℕ) (a : Actor) (w : Waiting) where
  abbrev id : ℕ
  id = id_in w.request

  one_query : (account source : List ℕ) (one other : Answer) → FitsQuery nodes node a w account source one →
      FitsQuery nodes node a w account source other →
      one ≡ other
  one_query account source (Shown chain) (Shown shown) x y = ap (λ (c : List Decree). Shown c) (knows_one nodes a.received id chain shown x.known y.known)
  one_query account source (Shown chain) NotOwner x y = absurd
      (y.other (subst (λ (m : Submission). IsOwner m account source)
      (one_taken nodes a id chain y.chain x.taken y.taken x.known y.known x.message y.message) x.owner))
  one_query account source (Shown chain) Unknown x y = absurd (known_not nodes a id chain x.known y.nothing)
  one_query account source NotOwner (Shown chain) x y = absurd
      (x.other (subst (λ (m : Submission). IsOwner m account source)
      (one_taken nodes a id chain x.chain y.taken x.taken y.known x.known y.message x.message) y.owner))
  one_query account source NotOwner NotOwner x y = refl
  one_query account source NotOwner Unknown x y = absurd (known_not nodes a id x.chain x.known y.nothing)
  one_query account source Unknown (Shown chain) x y = absurd (known_not nodes a id chain y.known x.nothing)
  one_query account source Unknown NotOwner x y = absurd (known_not nodes a id y.chain y.known x.nothing)
  one_query account source Unknown Unknown x y = refl
  one_query account source (Shown chain) other x y = absurd y
  one_query account source NotOwner other x y = absurd y
  one_query account source Unknown other x y = absurd y
  one_query account source one other x y = absurd x

  removed_or_kept : (account source destination : List ℕ) (chain kept : List Decree) →
      FitsCancel nodes node a w account source destination (Removed chain) →
      FitsCancel nodes node a w account source destination (Kept kept) →
      ⊥
  removed_or_kept account source destination chain kept x y =
      let same = knows_one nodes a.received id chain kept x.known y.known in
      not_kept (final_in kept) y.newest.kind (ap final_in (sym same) ∙ x.deleted) y.kept

  matched_or_not : (account source destination : List ℕ) (one other : List Decree) (first second : Submission) →
      Knows nodes a.received id one → Knows nodes a.received id other → taken_in one ≡ Some first → taken_in other ≡ Some second →
      IsMatch first account source destination → (IsMatch second account source destination → ⊥) →
      ⊥
  matched_or_not account source destination one other first second knows also is_first is_second matches not =
      not (subst (λ (m : Submission). IsMatch m account source destination) (one_taken nodes a id one other first second knows also is_first is_second) matches)

  one_cancel : (account source destination : List ℕ) (one other : Answer) → FitsCancel nodes node a w account source destination one →
      FitsCancel nodes node a w account source destination other →
      one ≡ other
  one_cancel account source destination (Removed chain) (Removed removed) x y = ap (λ (c : List Decree). Removed c)
      (knows_one nodes a.received id chain removed x.known y.known)
  one_cancel account source destination (Removed chain) (Kept kept) x y = absurd (removed_or_kept account source destination chain kept x y)
  one_cancel account source destination (Removed chain) (NotMatched other) x y = absurd
      (matched_or_not account source destination chain other x.taken y.taken x.known y.known x.message y.message x.matched y.other)
  one_cancel account source destination (Removed chain) Unknown x y = absurd (known_not nodes a id chain x.known y.nothing)
  one_cancel account source destination (Kept chain) (Removed removed) x y = absurd (removed_or_kept account source destination removed chain y x)
  one_cancel account source destination (Kept chain) (Kept kept) x y = ap (λ (c : List Decree). Kept c)
      (knows_one nodes a.received id chain kept x.known y.known)
  one_cancel account source destination (Kept chain) (NotMatched other) x y = absurd
      (matched_or_not account source destination chain other x.taken y.taken x.known y.known x.message y.message x.matched y.other)
  one_cancel account source destination (Kept chain) Unknown x y = absurd (known_not nodes a id chain x.known y.nothing)
  one_cancel account source destination (NotMatched chain) (Removed removed) x y = absurd
      (matched_or_not account source destination removed chain y.taken x.taken y.known x.known y.message x.message y.matched x.other)
  one_cancel account source destination (NotMatched chain) (Kept kept) x y = absurd
      (matched_or_not account source destination kept chain y.taken x.taken y.known x.known y.message x.message y.matched x.other)
  one_cancel account source destination (NotMatched chain) (NotMatched other) x y = ap (λ (c : List Decree). NotMatched c)
      (knows_one nodes a.received id chain other x.known y.known)
  one_cancel account source destination (NotMatched chain) Unknown x y = absurd (known_not nodes a id chain x.known y.nothing)
  one_cancel account source destination Unknown (Removed removed) x y = absurd (known_not nodes a id removed y.known x.nothing)
  one_cancel account source destination Unknown (Kept kept) x y = absurd (known_not nodes a id kept y.known x.nothing)
  one_cancel account source destination Unknown (NotMatched other) x y = absurd (known_not nodes a id other y.known x.nothing)
  one_cancel account source destination Unknown Unknown x y = refl
  one_cancel account source destination (Removed chain) other x y = absurd y
  one_cancel account source destination (Kept chain) other x y = absurd y
  one_cancel account source destination (NotMatched chain) other x y = absurd y
  one_cancel account source destination Unknown other x y = absurd y
  one_cancel account source destination one other x y = absurd x

  pub one_answer : (request : Request) (one other : Answer) → FitsRequest nodes node a w request one → FitsRequest nodes node a w request other → one ≡ other
  one_answer (Submit of message) one other x y = one_submit nodes a of one other x y
  one_answer (Query of account source) one other x y = one_query account source one other x y
  one_answer (Cancel of account source destination) one other x y = one_cancel account source destination one other x y
