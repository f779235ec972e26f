-- What a request is answered by what is kept is what it is answered by what the actor knows and was told.
use Rattle.std.proofs.Common.{◌≡◌, ◌↔◌, ℕ, pred, Bool, true, false, List, [], ◌∷◌, length, Option, Some, None, refl, sym, ap, subst, subst₂, ◌∙◌, inl, inr, arith}
use Rattle.std.specs.Prelude.{if◌then◌else◌}
use Rattle.std.proofs.lemmas.Bool.{and_from, and_parts, true≢false}
use Rattle.mc_model.specs.message.Submission.{Submission}
use Rattle.mc_model.specs.message.Decree.{Attempt, Decree, Deleted, Delivered, Expired, Failed, Fate, Told, Final, Kind, Rejected, Taken, Undeliverable}
use Rattle.mc_model.specs.message.Chain.{final_in, taken_in}
use Rattle.mc_model.specs.synod.Lists.{In}
use Rattle.mc_model.specs.synod.Packet.{Name, Packet, Tell, TopVote}
use Rattle.mc_model.specs.node.Actor.{Actor, Cancel, Query, Request, Submit, Waiting, id_in, name_of}
use Rattle.mc_model.specs.node.Knowledge.{IsKnown, Knows}
use Rattle.mc_model.specs.node.Proposal.{IsMatch}
use Rattle.mc_model.specs.node.Replies.{Accepted, Answer, FitsCancel, FitsQuery, FitsRequest, FitsSubmit, Kept, KeepsMessage, NotMatched, NotOwner, Removed}
use Rattle.mc_model.specs.node.Replies.{Shown, Unknown}
use Rattle.mc_model.specs.node.Settling.{HasTold, IsReached, IsSettled}
use Rattle.mc_parts.proofs.Known.{knows_one}
use Rattle.node_model.specs.Kept.{Held}
use Rattle.node_model.specs.Answers.{answer_by, cancel_answer, cancel_answer_of, cancel_decided, is_match, is_owner, query_shown}
use Rattle.node_model.specs.Requests.{is_reached, is_settled}
use Rattle.node_model.specs.Sets.{is_majority}
use Rattle.node_model.proofs.Decisions.{nat_le_decides}
use Rattle.node_laws.specs.Stands.{IsHeld, IsHighestTold}
use Rattle.node_laws.proofs.invariant.Cancelling.{match_decides, owner_decides}
use Rattle.node_laws.proofs.invariant.Learning.{majority_decides}

-- ---- what is known

-- what is known is one chain, or nothing
pub known_is : (nodes id : ℕ) (received : List Packet) (known : Option (List Decree)) (chain : List Decree) → IsKnown nodes received id known →
    Knows nodes received id chain → known ≡ Some chain
known_is nodes id received None chain nothing knows = absurd (nothing _ _ knows.learned)
known_is nodes id received (Some old) chain is knows = ap (λ (c : List Decree). Some c) (knows_one nodes received id old chain is knows)

-- ---- how far the chain has come

module _ (nodes : ℕ) (received : List Packet) (name : Name) (h : Held) (is : IsHeld received name h) where
  reached_known : (known : Option (List Decree)) (top : Option TopVote) → IsHighestTold received name top → is_reached known top ≡ true →
      (teller : ℕ) (told : Option TopVote) → In (Tell teller name told) received → IsReached known told
  reached_known known top highest reached teller None heard = tt
  reached_known known None none reached teller (Some told) heard = absurd (none teller told heard)
  reached_known None (Some top) highest reached teller (Some told) heard = absurd (true≢false (sym reached))
  reached_known (Some chain) (Some top) highest reached teller (Some told) heard =
      let far = (nat_le_decides top.place (pred (length chain))).0 reached in
      elim (highest.highest teller told heard) [ inl below ↦ omega arith | inr at ↦ let same = at.0 in omega arith ]

  known_reaches : (known : Option (List Decree)) (top : Option TopVote) → IsHighestTold received name top →
      ((teller : ℕ) (told : Option TopVote) → In (Tell teller name told) received → IsReached known told) → is_reached known top ≡ true
  known_reaches known None none reached = refl
  known_reaches None (Some top) highest reached = absurd (reached highest.told.0 (Some top) highest.told.1)
  known_reaches (Some chain) (Some top) highest reached =
      (nat_le_decides top.place (pred (length chain))).1 (reached highest.told.0 (Some top) highest.told.1)

  pub settled_decides : (known : Option (List Decree)) → (is_settled nodes known h ≡ true) ↔ IsSettled nodes received name known
  settled_decides known = (
    λ settled.
        let parts = and_parts (is_majority nodes h.tellers) (is_reached known h.top) settled in
        record {
          majority = (majority_decides nodes (HasTold received name) h.tellers is.tellers).0 parts.0;
          reached = reached_known known h.top is.top parts.1;
        },
    λ settled.
        and_from (is_majority nodes h.tellers) (is_reached known h.top)
        ((majority_decides nodes (HasTold received name) h.tellers is.tellers).1 settled.majority)
        (known_reaches known h.top is.top settled.reached),
  )

-- ---- the answer

-- an answer fits, or if there is none, then none fits
abbrev pub AnswerIs : Option Answer → (Answer → Type 0) → Type 0
AnswerIs None Fits = (answer : Answer) → Fits answer → ⊥
AnswerIs (Some answer) Fits = Fits answer

module _ (nodes node : ℕ) (a : Actor) (h : Held) (is : IsHeld a.received (name_of node a h.waiting) h) where
  abbrev w : Waiting
  w = h.waiting

  abbrev id : ℕ
  id = id_in h.waiting.request

  abbrev Settled : Option (List Decree) → Type 0
  Settled known = IsSettled nodes a.received (name_of node a w) known

  settled_is : (known : Option (List Decree)) → is_settled nodes known h ≡ true → Settled known
  settled_is known settled = (settled_decides nodes a.received (name_of node a w) h is known).0 settled

  unsettled_is : (known : Option (List Decree)) → is_settled nodes known h ≡ false → Settled known → ⊥
  unsettled_is known not_yet settled =
      true≢false (sym ((settled_decides nodes a.received (name_of node a w) h is known).1 settled) ∙ not_yet)

  one_known : (chain other : List Decree) → Knows nodes a.received id chain → Knows nodes a.received id other → other ≡ chain
  one_known chain other knows also = knows_one nodes a.received id other chain also knows

  one_taken : (chain other : List Decree) (taken of : Submission) → other ≡ chain → taken_in chain ≡ Some taken → taken_in other ≡ Some of → of ≡ taken
  one_taken chain other taken of same is also = let both : Some of ≡ Some taken = sym also ∙ ap taken_in same ∙ is in cc

  -- ---- a submit_sm

  submit_is : (message : Submission) (known : Option (List Decree)) → IsKnown nodes a.received id known → (reached settled : Bool) → (of : ℕ) → of ≡ id →
      AnswerIs (answer_by known reached settled (Submit of message)) (FitsSubmit nodes a of)
  submit_is message (Some chain) knows reached settled of same = record {
    chain = chain;
    known = subst (λ (i : ℕ). Knows nodes a.received i chain) (sym same) knows;
  }
  submit_is message None nothing reached settled of same = none
    where
      none : (answer : Answer) → FitsSubmit nodes a of answer → ⊥
      none Accepted fits = nothing _ _ (subst (λ (i : ℕ). Knows nodes a.received i fits.chain) same fits.known).learned
      none answer fits = fits

  -- ---- a query_sm

  module _ (account source : List ℕ) where
    abbrev QueryFits : Answer → Type 0
    QueryFits answer = FitsQuery nodes node a w account source answer

    query_unknown : IsKnown nodes a.received id None → (reached : Bool) → is_settled nodes None h ≡ reached →
        AnswerIs (if reached then Some Unknown else None) QueryFits
    query_unknown nothing true settled = record { nothing = nothing; settled = settled_is None settled }
    query_unknown nothing false settled = none
      where
        none : (answer : Answer) → QueryFits answer → ⊥
        none (Shown chain) fits = nothing _ _ fits.known.learned
        none NotOwner fits = nothing _ _ fits.known.learned
        none Unknown fits = unsettled_is None settled fits.settled
        none answer fits = fits

    query_open : (chain : List Decree) → Knows nodes a.received id chain → is_settled nodes (Some chain) h ≡ false → (answer : Answer) → QueryFits answer → ⊥
    query_open chain knows settled (Shown other) fits =
        unsettled_is (Some chain) settled (subst (λ (c : List Decree). Settled (Some c)) (one_known chain other knows fits.known) fits.settled)
    query_open chain knows settled NotOwner fits =
        unsettled_is (Some chain) settled (subst (λ (c : List Decree). Settled (Some c)) (one_known chain fits.chain knows fits.known) fits.settled)
    query_open chain knows settled Unknown fits = fits.nothing _ _ knows.learned
    query_open chain knows settled answer fits = fits

    query_none : (chain : List Decree) → Knows nodes a.received id chain → taken_in chain ≡ None → (answer : Answer) → QueryFits answer → ⊥
    query_none chain knows none (Shown other) fits = let both : Some fits.taken ≡ None = sym fits.message
        ∙ ap taken_in (one_known chain other knows fits.known) ∙ none in absurd (cc)
    query_none chain knows none NotOwner fits = let both : Some fits.taken ≡ None = sym fits.message
        ∙ ap taken_in (one_known chain fits.chain knows fits.known) ∙ none in absurd (cc)
    query_none chain knows none Unknown fits = fits.nothing _ _ knows.learned
    query_none chain knows none answer fits = fits

    query_taken : (chain : List Decree) → Knows nodes a.received id chain → is_settled nodes (Some chain) h ≡ true → (taken : Option Submission) →
        taken_in chain ≡ taken →
        AnswerIs (query_shown account source chain taken) QueryFits
    query_taken chain knows settled None none = query_none chain knows none
    query_taken chain knows settled (Some taken) message = by_owner (is_owner taken account source) refl
      where
        by_owner : (owner : Bool) → is_owner taken account source ≡ owner → AnswerIs (if owner then Some (Shown chain) else Some NotOwner) QueryFits
        by_owner true owner = record {
          taken = taken;
          known = knows;
          settled = settled_is (Some chain) settled;
          message = message;
          owner = (owner_decides taken account source).0 owner;
        }
        by_owner false other = record {
          chain = chain;
          taken = taken;
          known = knows;
          settled = settled_is (Some chain) settled;
          message = message;
          other = λ owner. true≢false (sym ((owner_decides taken account source).1 owner) ∙ other);
        }

    query_known : (chain : List Decree) → Knows nodes a.received id chain → (reached : Bool) → is_settled nodes (Some chain) h ≡ reached →
        AnswerIs (if reached then query_shown account source chain (taken_in chain) else None) QueryFits
    query_known chain knows true settled = query_taken chain knows settled (taken_in chain) refl
    query_known chain knows false settled = query_open chain knows settled

  -- ---- a cancel_sm

  module _ (account source destination : List ℕ) where
    abbrev CancelFits : Answer → Type 0
    CancelFits answer = FitsCancel nodes node a w account source destination answer

    cancel_unknown : IsKnown nodes a.received id None → (reached : Bool) → is_settled nodes None h ≡ reached →
        AnswerIs (if reached then Some Unknown else None) CancelFits
    cancel_unknown nothing true settled = record { nothing = nothing; settled = settled_is None settled }
    cancel_unknown nothing false settled = none
      where
        none : (answer : Answer) → CancelFits answer → ⊥
        none (Removed chain) fits = nothing _ _ fits.known.learned
        none (Kept chain) fits = nothing _ _ fits.known.learned
        none (NotMatched chain) fits = nothing _ _ fits.known.learned
        none Unknown fits = unsettled_is None settled fits.settled
        none answer fits = fits

    cancel_open : (chain : List Decree) → Knows nodes a.received id chain → w.settled ≡ false → (answer : Answer) → CancelFits answer → ⊥
    cancel_open chain knows early (Removed other) fits = true≢false (sym fits.settled ∙ early)
    cancel_open chain knows early (Kept other) fits = true≢false (sym fits.settled ∙ early)
    cancel_open chain knows early (NotMatched other) fits = true≢false (sym fits.settled ∙ early)
    cancel_open chain knows early Unknown fits = fits.nothing _ _ knows.learned
    cancel_open chain knows early answer fits = fits

    cancel_none : (chain : List Decree) → Knows nodes a.received id chain → taken_in chain ≡ None → (answer : Answer) → CancelFits answer → ⊥
    cancel_none chain knows none (Removed other) fits = let both : Some fits.taken ≡ None = sym fits.message
        ∙ ap taken_in (one_known chain other knows fits.known) ∙ none in absurd (cc)
    cancel_none chain knows none (Kept other) fits = let both : Some fits.taken ≡ None = sym fits.message
        ∙ ap taken_in (one_known chain other knows fits.known) ∙ none in absurd (cc)
    cancel_none chain knows none (NotMatched other) fits = let both : Some fits.taken ≡ None = sym fits.message
        ∙ ap taken_in (one_known chain other knows fits.known) ∙ none in absurd (cc)
    cancel_none chain knows none Unknown fits = fits.nothing _ _ knows.learned
    cancel_none chain knows none answer fits = fits

    -- it matches, and the message is idle: nothing fits
    cancel_waits : (newest : Decree) (older : List Decree) (taken : Submission) → Knows nodes a.received id (newest ∷ older) →
        taken_in (newest ∷ older) ≡ Some taken → IsMatch taken account source destination → (final_in (newest ∷ older) ≡ Some Deleted → ⊥) →
        (KeepsMessage (final_in (newest ∷ older)) newest.kind → ⊥) → (answer : Answer) → CancelFits answer → ⊥
    cancel_waits newest older taken knows message matched deleted keeps (Removed other) fits =
        deleted (ap final_in (sym (one_known (newest ∷ older) other knows fits.known)) ∙ fits.deleted)
    cancel_waits newest older taken knows message matched deleted keeps (Kept other) fits =
        let known : other ≡ newest ∷ older = one_known (newest ∷ older) other knows fits.known in
        let same : newest ∷ older ≡ fits.newest ∷ fits.older = sym known ∙ fits.chain_is in
        let first : newest ≡ fits.newest = cc in
        keeps (subst₂ (λ (c : List Decree) (d : Decree). KeepsMessage (final_in c) d.kind) known (sym first) fits.kept)
    cancel_waits newest older taken knows message matched deleted keeps (NotMatched other) fits =
        fits.other (subst (λ (s : Submission). IsMatch s account source destination)
        (sym (one_taken (newest ∷ older) other taken fits.taken (one_known (newest ∷ older) other knows fits.known) message fits.message)) matched)
    cancel_waits newest older taken knows message matched deleted keeps Unknown fits = fits.nothing _ _ knows.learned
    cancel_waits newest older taken knows message matched deleted keeps answer fits = fits

    cancel_matched : (newest : Decree) (older : List Decree) (taken : Submission) → Knows nodes a.received id (newest ∷ older) → w.settled ≡ true →
        taken_in (newest ∷ older) ≡ Some taken → IsMatch taken account source destination →
        AnswerIs (cancel_answer_of (newest ∷ older)) CancelFits
    cancel_matched newest older taken knows settled message matched = by_state (final_in (newest ∷ older)) newest.kind refl refl
      where
        keeps : (state : Option Final) (kind : Kind) → final_in (newest ∷ older) ≡ state → newest.kind ≡ kind → KeepsMessage state kind →
            CancelFits (Kept (newest ∷ older))
        keeps state kind ends is kept = record {
          taken = taken;
          newest = newest;
          older = older;
          known = knows;
          settled = settled;
          message = message;
          matched = matched;
          chain_is = refl;
          kept = subst₂ KeepsMessage (sym ends) (sym is) kept;
        }

        waits : (kind : Kind) → final_in (newest ∷ older) ≡ None → newest.kind ≡ kind → (KeepsMessage None kind → ⊥) → (answer : Answer) →
            CancelFits answer → ⊥
        waits kind ends is kept = cancel_waits newest older taken knows message matched
            (λ d. let both : None ≡ Some Deleted = sym ends ∙ d in absurd (cc)) (λ k. kept (subst₂ KeepsMessage ends is k))

        by_state : (state : Option Final) (kind : Kind) → final_in (newest ∷ older) ≡ state → newest.kind ≡ kind →
            AnswerIs (cancel_answer state kind (newest ∷ older)) CancelFits
        by_state None (Taken of) ends is = waits (Taken of) ends is (λ none. none)
        by_state None (Attempt number) ends is = keeps None (Attempt number) ends is tt
        by_state None (Failed error) ends is = waits (Failed error) ends is (λ none. none)
        by_state None (Fate final error) ends is = keeps None (Fate final error) ends is tt
        by_state None Told ends is = keeps None Told ends is tt
        by_state (Some Delivered) kind ends is = keeps (Some Delivered) kind ends is tt
        by_state (Some Expired) kind ends is = keeps (Some Expired) kind ends is tt
        by_state (Some Deleted) kind ends is = record {
          taken = taken;
          known = knows;
          settled = settled;
          message = message;
          matched = matched;
          deleted = ends;
        }
        by_state (Some Undeliverable) kind ends is = keeps (Some Undeliverable) kind ends is tt
        by_state (Some Rejected) kind ends is = keeps (Some Rejected) kind ends is tt

    cancel_taken : (chain : List Decree) → Knows nodes a.received id chain → w.settled ≡ true → (taken : Option Submission) → taken_in chain ≡ taken →
        AnswerIs (cancel_decided account source destination chain taken) CancelFits
    cancel_taken chain knows settled None none = cancel_none chain knows none
    cancel_taken [] knows settled (Some taken) message = absurd (cc)
    cancel_taken (newest ∷ older) knows settled (Some taken) message = by_match (is_match taken account source destination) refl
      where
        by_match : (matched : Bool) → is_match taken account source destination ≡ matched →
            AnswerIs (if matched then cancel_answer_of (newest ∷ older) else Some (NotMatched (newest ∷ older))) CancelFits
        by_match true matched = cancel_matched newest older taken knows settled message ((match_decides taken account source destination).0 matched)
        by_match false other = record {
          taken = taken;
          known = knows;
          settled = settled;
          message = message;
          other = λ matched. true≢false (sym ((match_decides taken account source destination).1 matched) ∙ other);
        }

    cancel_known : (chain : List Decree) → Knows nodes a.received id chain → (settled : Bool) → w.settled ≡ settled →
        AnswerIs (if settled then cancel_decided account source destination chain (taken_in chain) else None) CancelFits
    cancel_known chain knows true settled = cancel_taken chain knows settled (taken_in chain) refl
    cancel_known chain knows false early = cancel_open chain knows early

  -- ---- any request

  pub answer_is : (request : Request) → h.waiting.request ≡ request → (known : Option (List Decree)) → IsKnown nodes a.received id known →
      AnswerIs (answer_by known (is_settled nodes known h) h.waiting.settled request) (FitsRequest nodes node a w request)
  answer_is (Submit of message) is known knows = submit_is message known knows (is_settled nodes known h) h.waiting.settled of (sym (ap id_in is))
  answer_is (Query of account source) is None nothing = query_unknown account source nothing (is_settled nodes None h) refl
  answer_is (Query of account source) is (Some chain) knows = query_known account source chain knows (is_settled nodes (Some chain) h) refl
  answer_is (Cancel of account source destination) is None nothing = cancel_unknown account source destination nothing (is_settled nodes None h) refl
  answer_is (Cancel of account source destination) is (Some chain) knows = cancel_known account source destination chain knows h.waiting.settled refl
