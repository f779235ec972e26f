-- The first step of a node is exact.
use Rattle.std.proofs.Common.{◌≡◌, ℕ, false, List, [], ◌∷◌, refl, sym, ◌∙◌, ap, subst, inl, inr, arith}
use Rattle.mc_model.specs.message.Submission.{Submission}
use Rattle.mc_model.specs.message.Decree.{Decree, Taken}
use Rattle.mc_model.specs.synod.Lists.{In}
use Rattle.mc_model.specs.synod.OneSlot.{Vote, vote_at}
use Rattle.mc_model.specs.synod.Packet.{Slot, slot_of, Prepare, Voted}
use Rattle.mc_model.specs.synod.Acceptor.{Records, blank}
use Rattle.mc_model.specs.node.Actor.{Actor, Submit, Waiting, opened, opening_clock}
use Rattle.mc_model.specs.node.Knowledge.{IsLearned, Knows}
use Rattle.mc_model.specs.node.Proposal.{IsFirst}
use Rattle.mc_model.specs.node.Replies.{Answer, Accepted, FitsRequest}
use Rattle.mc_model.specs.node.Act.{Act, Settles, Replies, Asks, Prepares, Proposes, Reports, Begins}
use Rattle.mc_model.specs.node.Effect.{did}
use Rattle.mc_model.specs.node.Rounds.{HasSeen, MayPrepare}
use Rattle.mc_model.specs.node.Input.{Arrival}
use Rattle.mc_model.specs.node.Causes.{Causes}
use Rattle.mc_model.specs.node.Due.{AreDue, AreDueOnce, key_of}
use Rattle.mc_model.specs.node.Phases.{IsCancelRequest, DueToSettle, DueToEnd, DueToAsk, DueToAbandon, DueToPrepare, DueToPropose, DueToReply, DueToReport}
use Rattle.mc_model.specs.node.Step.{IsExact}
use Rattle.mc_laws.specs.Stories.{first_id, first_ballot, first_setup, taken_chain, first_step}
use Rattle.mc_parts.proofs.Membership.{never_empty}
use Rattle.mc_laws.proofs.story.Rounds.{one_of_one}

-- ---- nothing is due

pub none_due : (Due : Act → Type 0) → ((act : Act) → Due act → ⊥) → AreDue Due []
none_due Due none = record { each = λ act. (λ is_in. absurd is_in, λ due. absurd (none act due)); order = tt }

pub none_due_once : (Due : Act → Type 0) → ((act : Act) → Due act → ⊥) → AreDueOnce Due []
none_due_once Due none = record { only = λ act is_in. absurd is_in; all = λ act due. absurd (none act due); order = tt }

-- ---- the first step

abbrev new_node : Actor
new_node = opened 1 1

abbrev no_records : Records
no_records = λ slot. blank

abbrev asked : Submission → Actor
asked message = did 1 new_node (Begins 1 (Submit first_id message) ∷ [])

-- nothing is known where nothing was received
none_learned : (slot : Slot) (vote : Vote) → IsLearned 1 [] slot vote → ⊥
none_learned slot vote learned = one_of_one (λ acceptor. In (Voted acceptor slot vote) []) learned

none_known : (id : ℕ) (chain : List Decree) → Knows 1 [] id chain → ⊥
none_known id chain known = none_learned (slot_of id chain) (vote_at known.ballot chain) known.learned

-- the one request that waits
only_waiting : (message : Submission) (P : Waiting → Type 0) →
    P (record { ticket = 1; since = opening_clock; request = Submit first_id message; settled = false }) → (waiting : Waiting) →
    In waiting (asked message).waiting →
    P waiting
only_waiting message P holds waiting (inl same) = subst P (sym same) holds
only_waiting message P holds waiting (inr none) = absurd none

nothing_to_settle : (message : Submission) (act : Act) → DueToSettle 1 1 (asked message) act → ⊥
nothing_to_settle message (Settles ticket) due = only_waiting message (λ w. IsCancelRequest w.request → ⊥) (λ none. none) due.waiting due.waits due.cancel
nothing_to_settle message act due = due

nothing_to_ask : (message : Submission) (act : Act) → DueToAsk 1 1 new_node (asked message) (Arrival (Submit first_id message)) act → ⊥
nothing_to_ask message (Asks id ticket) due = due
nothing_to_ask message act due = due

nothing_to_propose : (message : Submission) (act : Act) → DueToPropose 1 1 new_node (asked message) act → ⊥
nothing_to_propose message (Proposes slot vote) due = (one_of_one _ due.0.promised).1
nothing_to_propose message act due = due

no_answer : (message : Submission) (waiting : Waiting) (answer : Answer) → FitsRequest 1 1 (asked message) waiting (Submit first_id message) answer → ⊥
no_answer message waiting Accepted fits = none_known _ _ fits.known
no_answer message waiting answer fits = fits

nothing_to_reply : (message : Submission) (act : Act) → DueToReply 1 1 (asked message) act → ⊥
nothing_to_reply message (Replies ticket id answer) due =
    only_waiting message (λ w. (other : Waiting) → FitsRequest 1 1 (asked message) other w.request answer → ⊥)
    (λ other. no_answer message other answer) due.asked.waiting due.asked.waits due.asked.waiting due.fits
nothing_to_reply message act due = due

nothing_to_report : (message : Submission) (act : Act) → DueToReport 1 1 new_node (asked message) act → ⊥
nothing_to_report message (Reports id chain) due = none_known _ _ due.known
nothing_to_report message act due = due

-- the first round is the first
no_seen : (message : Submission) (slot : Slot) (round : ℕ) → HasSeen 1 (asked message) no_records slot round → round ≡ 0
no_seen message slot round (inl own) = own
no_seen message slot round (inr (inl refused)) = absurd refused.heard
no_seen message slot round (inr (inr prepared)) = absurd prepared.sent

may_prepare : (message : Submission) (slot : Slot) → MayPrepare 1 1 (asked message) no_records slot first_ballot
may_prepare message slot = record {
  none = λ other ballot same running. never_empty running.round.newer running.round.older (Prepare 1 other ballot) running.round.split;
  next = record {
    highest = 0;
    seen = inl refl;
    most = λ round seen. let none = no_seen message slot round seen in omega (arith, none);
    ballot_is = refl;
    round = record { least = omega arith; most = omega arith };
  };
}

abbrev taken_at : ℕ → Submission → List Decree
taken_at moment message = record { author = record { node = 1; incarnation = 1 }; moment = moment; kind = Taken message } ∷ []

record Cause (message : Submission) (id place : ℕ) (chain : List Decree) : Type 0 where
  id_is : id ≡ first_id
  place_is : place ≡ 0
  chain_is : chain ≡ taken_chain message

-- what causes a round
only_chain : (message : Submission) (id : ℕ) (chain : List Decree) → IsFirst 1 (asked message) id chain → chain ≡ taken_chain message
only_chain message id chain first =
    first.chain_is ∙ only_waiting message (λ w. w.request ≡ Submit id first.message → taken_at w.since first.message ≡ taken_chain message)
    (λ is. ap (taken_at opening_clock) (same_message message id first.message is)) first.waiting first.waits first.submits
  where
    same_message : (one : Submission) (id : ℕ) (other : Submission) → Submit first_id one ≡ Submit id other → other ≡ one
    same_message one id other is = cc

only_cause : (message : Submission) (id place : ℕ) (chain : List Decree) →
    Causes 1 1 new_node (asked message) (Arrival (Submit first_id message)) id place chain →
    Cause message id place chain
only_cause message id place chain (inl take) = record { id_is = sym take.0; place_is = take.1; chain_is = only_chain message id chain take.2 }
only_cause message id place chain (inr (inl close)) = absurd close
only_cause message id place chain (inr (inr (inl follow))) = absurd follow
only_cause message id place chain (inr (inr (inr (inl delete)))) = absurd (none_known _ _ delete.deletes.further.known)
only_cause message id place chain (inr (inr (inr (inr told)))) = absurd (none_known _ _ told.due.further.known)

taken_first : (message : Submission) → IsFirst 1 (asked message) first_id (taken_chain message)
taken_first message = record {
  waiting = record { ticket = 1; since = opening_clock; request = Submit first_id message; settled = false };
  message = message;
  waits = inl refl;
  submits = refl;
  chain_is = refl;
}

prepared_only : (message : Submission) (act : Act) →
    In act (Prepares (slot_of first_id (taken_chain message)) first_ballot (taken_chain message) ∷ []) →
    DueToPrepare 1 1 new_node (asked message) no_records (Arrival (Submit first_id message)) act
prepared_only message act (inr none) = absurd none
prepared_only message act (inl same) =
    subst (DueToPrepare 1 1 new_node (asked message) no_records (Arrival (Submit first_id message))) (sym same)
    (inl (refl, refl, taken_first message), may_prepare message (slot_of first_id (taken_chain message)))

prepared_all : (message : Submission) (act : Act) →
    DueToPrepare 1 1 new_node (asked message) no_records (Arrival (Submit first_id message)) act →
    In (key_of act) (first_id ∷ [])
prepared_all message (Prepares slot ballot chain) due = inl (only_cause message slot.id slot.place chain due.0).id_is
prepared_all message act due = absurd due

pub first_exact : (message : Submission) → IsExact first_setup new_node no_records (Arrival (Submit first_id message)) (first_step message)
first_exact message = record {
  core = Begins 1 (Submit first_id message) ∷ [];
  settles = [];
  late = [];
  asks = [];
  abandons = [];
  prepares = Prepares (slot_of first_id (taken_chain message)) first_ballot (taken_chain message) ∷ [];
  proposes = [];
  replies = [];
  reports = [];
  acts_are = refl;
  core_is = refl;
  settled = none_due (DueToSettle 1 1 (asked message)) (nothing_to_settle message);
  ended = none_due (DueToEnd (Arrival (Submit first_id message)) (asked message)) (λ act due. due);
  asked = none_due (DueToAsk 1 1 new_node (asked message) (Arrival (Submit first_id message))) (nothing_to_ask message);
  abandoned = none_due (DueToAbandon 1 1 (asked message) no_records (Arrival (Submit first_id message))) (λ act due. due);
  prepared = record { only = prepared_only message; all = prepared_all message; order = tt };
  proposed = none_due_once (DueToPropose 1 1 new_node (asked message)) (nothing_to_propose message);
  replied = none_due (DueToReply 1 1 (asked message)) (nothing_to_reply message);
  reported = none_due (DueToReport 1 1 new_node (asked message)) (nothing_to_report message);
}
