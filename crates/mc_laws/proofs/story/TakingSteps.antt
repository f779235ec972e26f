-- A cluster of one node takes a message, step by step.
use Rattle.std.proofs.Common.{◌≡◌, ℕ, true, false, List, [], ◌∷◌, ◌++◌, Some, None, refl, sym, ◌∙◌, ap, subst, inl, inr, arith}
use Rattle.mc_model.specs.message.Submission.{Submission}
use Rattle.mc_model.specs.message.Decree.{Decree, Final, Taken}
use Rattle.mc_model.specs.message.Chain.{final_in}
use Rattle.mc_model.specs.synod.Lists.{In}
use Rattle.mc_model.specs.synod.OneSlot.{Vote, vote_at}
use Rattle.mc_model.specs.synod.Packet.{Slot, slot_of, Packet, Prepare, Promise, Propose, Voted}
use Rattle.mc_model.specs.synod.Acceptor.{Records, blank}
use Rattle.mc_model.specs.node.Actor.{Actor, Submit, Waiting, opening_clock, id_in}
use Rattle.mc_model.specs.node.Knowledge.{Knows}
use Rattle.mc_model.specs.node.Proposal.{Cancels}
use Rattle.mc_model.specs.node.Replies.{Answer, Accepted, FitsRequest}
use Rattle.mc_model.specs.node.Rounds.{IsPromised, IsRunning}
use Rattle.mc_model.specs.node.Act.{Act, Receives, Promises, Votes, Settles, Replies, Asks, Prepares, Proposes, Reports}
use Rattle.mc_model.specs.node.Effect.{saved}
use Rattle.mc_model.specs.node.Input.{Delivery}
use Rattle.mc_model.specs.node.Due.{AreDue, AreDueOnce, key_of}
use Rattle.mc_model.specs.node.Causes.{Causes, CausesFollow, IsCompleted}
use Rattle.mc_model.specs.node.Phases.{IsCancelRequest, DueToSettle, DueToEnd, DueToAsk, DueToAbandon, DueToPrepare, DueToPropose, DueToReply, DueToReport}
use Rattle.mc_model.specs.node.Step.{IsExact}
use Rattle.mc_model.specs.cluster.World.{start}
use Rattle.mc_model.specs.cluster.Steps.{AreSteps}
use Rattle.mc_laws.specs.Stories.{decreed, first_ballot, first_id, first_setup, taken_chain, taken_slot, taken_vote, MayBeTried}
use Rattle.mc_laws.specs.ClusterStories.{lone, begun_steps, promised_steps, proposed_steps, voted_steps, taking_steps}
use Rattle.mc_parts.proofs.Known.{knows_one}
use Rattle.mc_parts.proofs.Membership.{never_empty}
use Rattle.mc_laws.proofs.story.Untold.{unfated, untold_newest}
use Rattle.mc_laws.proofs.story.Rounds.{all_of_one, one_of_one}
use Rattle.mc_laws.proofs.story.Delivery.{knows}
use Rattle.mc_laws.proofs.story.FirstStep.{none_due, none_due_once, first_exact}
use Rattle.mc_laws.proofs.story.Following.{NoVotes, none_known}

-- ---- a node at which one submit_sm waits

module _ (message : Submission) where
  abbrev submitted : Waiting
  submitted = record { ticket = 1; since = opening_clock; request = Submit first_id message; settled = false }

  abbrev taking : List Packet → List Packet → Actor
  taking received sent = record {
    up = true;
    incarnation = 1;
    clock = opening_clock;
    serial = 2;
    ticket = 2;
    received = received;
    waiting = submitted ∷ [];
    sent = sent;
    before_tick = 0;
    offers = record { slot = taken_slot; ballot = first_ballot; chain = taken_chain message } ∷ [];
    granted = [];
    closed = [];
  }

  only : (P : Waiting → Type 0) → P submitted → (waiting : Waiting) → In waiting (submitted ∷ []) → P waiting
  only P holds waiting (inl same) = subst P (sym same) holds
  only P holds waiting (inr none) = absurd none

  -- a packet that comes starts no round, settles nothing and asks nothing
  settles_none : (received sent : List Packet) (act : Act) → DueToSettle 1 1 (taking received sent) act → ⊥
  settles_none received sent (Settles ticket) due = only (λ w. IsCancelRequest w.request → ⊥) (λ none. none) due.waiting due.waits due.cancel
  settles_none received sent act due = due

  asks_none : (before a : Actor) (packet : Packet) (act : Act) → DueToAsk 1 1 before a (Delivery packet) act → ⊥
  asks_none before a packet (Asks id ticket) due = due
  asks_none before a packet act due = due

  prepares_none : (before : Actor) (packet : Packet) (received sent : List Packet) (records : Records) →
      ((id place : ℕ) (chain : List Decree) (a : Actor) → CausesFollow 1 1 before a (Delivery packet) id place chain → ⊥) →
      ((id : ℕ) (known : List Decree) (final : Final) → Knows 1 received id known → final_in known ≡ Some final → ⊥) → (act : Act) →
      DueToPrepare 1 1 before (taking received sent) records (Delivery packet) act →
      ⊥
  prepares_none before packet received sent records no_follow no_fate (Prepares slot ballot chain) due = by_cause due.0
    where
      by_cause : Causes 1 1 before (taking received sent) (Delivery packet) slot.id slot.place chain → ⊥
      by_cause (inl take) = take
      by_cause (inr (inl close)) = close
      by_cause (inr (inr (inl follow))) = no_follow slot.id slot.place chain (taking received sent) follow
      by_cause (inr (inr (inr (inl delete)))) = only (λ w. Cancels w.request slot.id delete.deletes.further.taken → ⊥)
          (λ none. none) delete.deletes.cancelled.waiting delete.deletes.cancelled.waits delete.deletes.cancelled.cancels
      by_cause (inr (inr (inr (inr told)))) = unfated 1 1 (taking received sent) slot.id slot.place chain (no_fate slot.id) told.due
  prepares_none before packet received sent records no_follow no_fate act due = due

  votes_unfated : (received : List Packet) → NoVotes received → (id : ℕ) (known : List Decree) (final : Final) → Knows 1 received id known →
      final_in known ≡ Some final →
      ⊥
  votes_unfated received none id known final knows is = none_known 1 received none id known knows

  no_answer : (received sent : List Packet) → NoVotes received → (waiting : Waiting) (answer : Answer) →
      FitsRequest 1 1 (taking received sent) waiting (Submit first_id message) answer →
      ⊥
  no_answer received sent none waiting Accepted fits = none_known 1 received none _ _ fits.known
  no_answer received sent none waiting answer fits = fits

  replies_none : (received sent : List Packet) → NoVotes received → (act : Act) → DueToReply 1 1 (taking received sent) act → ⊥
  replies_none received sent none (Replies ticket id answer) due = only
      (λ w. (other : Waiting) → FitsRequest 1 1 (taking received sent) other w.request answer → ⊥)
      (λ other. no_answer received sent none other answer) due.asked.waiting due.asked.waits due.asked.waiting due.fits
  replies_none received sent none act due = due

  reports_none : (before : Actor) (received sent : List Packet) → NoVotes received → (act : Act) → DueToReport 1 1 before (taking received sent) act → ⊥
  reports_none before received sent none (Reports id chain) due = none_known 1 received none _ _ due.known
  reports_none before received sent none act due = due

  -- ---- the packets and the records

  abbrev no_records : Records
  no_records = λ slot. blank

  abbrev records_2 : Records
  records_2 = saved no_records (Promises taken_slot first_ballot true ∷ [])

  abbrev records_4 : Records
  records_4 = saved records_2 (Votes taken_slot (taken_vote message) true ∷ [])

  abbrev one_sent : List Packet
  one_sent = Prepare 1 taken_slot first_ballot ∷ []

  abbrev two_sent : List Packet
  two_sent = Propose 1 taken_slot (taken_vote message) ∷ one_sent

  abbrev heard_2 : List Packet
  heard_2 = Prepare 1 taken_slot first_ballot ∷ []

  abbrev heard_3 : List Packet
  heard_3 = Promise 1 taken_slot first_ballot None ∷ heard_2

  abbrev heard_4 : List Packet
  heard_4 = Propose 1 taken_slot (taken_vote message) ∷ heard_3

  abbrev heard_5 : List Packet
  heard_5 = Voted 1 taken_slot (taken_vote message) ∷ heard_4

  votes_2 : NoVotes heard_2
  votes_2 acceptor slot vote (inl same) = cc
  votes_2 acceptor slot vote (inr none) = none

  votes_3 : NoVotes heard_3
  votes_3 acceptor slot vote (inl same) = cc
  votes_3 acceptor slot vote (inr others) = votes_2 acceptor slot vote others

  votes_4 : NoVotes heard_4
  votes_4 acceptor slot vote (inl same) = cc
  votes_4 acceptor slot vote (inr others) = votes_3 acceptor slot vote others

  -- ---- the Prepare comes, and it promises

  unpromised : (slot : Slot) (ballot : ℕ) → IsPromised 1 (taking heard_2 one_sent) slot ballot → ⊥
  unpromised slot ballot promised = elim (one_of_one _ promised).1 [ inl same ↦ cc | inr none ↦ none ]

  proposes_none_2 : (before : Actor) (act : Act) → DueToPropose 1 1 before (taking heard_2 one_sent) act → ⊥
  proposes_none_2 before (Proposes slot vote) due = unpromised slot vote.ballot due.0.promised
  proposes_none_2 before act due = due

  prepare_exact : IsExact first_setup (taking [] one_sent) no_records (Delivery (Prepare 1 taken_slot first_ballot))
      (Promises taken_slot first_ballot true ∷ Receives (Prepare 1 taken_slot first_ballot) ∷ [])
  prepare_exact = record {
    core = Promises taken_slot first_ballot true ∷ Receives (Prepare 1 taken_slot first_ballot) ∷ [];
    settles = [];
    late = [];
    asks = [];
    abandons = [];
    prepares = [];
    proposes = [];
    replies = [];
    reports = [];
    acts_are = refl;
    core_is = inl (
      record { least = omega arith; most = omega arith },
      record
          { answer = Promises taken_slot first_ballot true ∷ []; answered = inl (omega arith, refl); acts_are = refl },
    );
    settled = none_due (DueToSettle 1 1 (taking heard_2 one_sent)) (settles_none heard_2 one_sent);
    ended = none_due (DueToEnd (Delivery (Prepare 1 taken_slot first_ballot)) (taking heard_2 one_sent)) (λ act due. due);
    asked = none_due (DueToAsk 1 1 (taking [] one_sent) (taking heard_2 one_sent) (Delivery (Prepare 1 taken_slot first_ballot)))
        (asks_none (taking [] one_sent) (taking heard_2 one_sent) (Prepare 1 taken_slot first_ballot));
    abandoned = none_due (DueToAbandon 1 1 (taking heard_2 one_sent) records_2 (Delivery (Prepare 1 taken_slot first_ballot))) (λ act due. due);
    prepared = none_due_once (DueToPrepare 1 1 (taking [] one_sent) (taking heard_2 one_sent) records_2
        (Delivery (Prepare 1 taken_slot first_ballot)))
        (prepares_none (taking [] one_sent) (Prepare 1 taken_slot first_ballot) heard_2 one_sent records_2 (λ id place chain a none. none)
        (votes_unfated heard_2 votes_2));
    proposed = none_due_once (DueToPropose 1 1 (taking [] one_sent) (taking heard_2 one_sent)) (proposes_none_2 (taking [] one_sent));
    replied = none_due (DueToReply 1 1 (taking heard_2 one_sent)) (replies_none heard_2 one_sent votes_2);
    reported = none_due (DueToReport 1 1 (taking [] one_sent) (taking heard_2 one_sent)) (reports_none (taking [] one_sent) heard_2 one_sent votes_2);
  }

  -- ---- the Promise comes, and it proposes

  promised_3 : IsPromised 1 (taking heard_3 one_sent) taken_slot first_ballot
  promised_3 = all_of_one 1 _ refl (None, inl refl)

  round_slot : (slot : Slot) (ballot : ℕ) (newer older : List Packet) → one_sent ≡ newer ++ Prepare 1 slot ballot ∷ older → slot ≡ taken_slot
  round_slot slot ballot [] older is = let heads : Prepare 1 taken_slot first_ballot ≡ Prepare 1 slot ballot = cc in cc
  round_slot slot ballot (first ∷ newer) older is = absurd (never_empty newer older (Prepare 1 slot ballot) cc)

  running : IsRunning 1 1 (taking heard_3 one_sent) taken_slot first_ballot
  running = record {
    round = record { newer = []; older = []; split = refl; newest = λ sender other above none. absurd none };
    accepted = λ refused. elim refused.heard [ inl same ↦ cc | inr earlier ↦ elim earlier [ inl same ↦ cc | inr none ↦ none ] ];
    short = λ reached. none_known 1 heard_3 votes_3 _ _ reached.known;
  }

  complete : IsCompleted 1 1 (taking heard_2 one_sent) (taking heard_3 one_sent) taken_slot first_ballot
  complete = record { running = running; promised = promised_3; new = unpromised taken_slot first_ballot }

  unreported : (acceptor : ℕ) (top : Vote) → In (Promise acceptor taken_slot first_ballot (Some top)) heard_3 → ⊥
  unreported acceptor top is_in = elim is_in [ inl same ↦ cc | inr earlier ↦ elim earlier [ inl same ↦ cc | inr none ↦ none ] ]

  one_proposal : AreDueOnce (DueToPropose 1 1 (taking heard_2 one_sent) (taking heard_3 one_sent)) (Proposes taken_slot (taken_vote message) ∷ [])
  one_proposal = record { only = there; all = back; order = tt }
    where
      there : (act : Act) → In act (Proposes taken_slot (taken_vote message) ∷ []) → DueToPropose 1 1 (taking heard_2 one_sent) (taking heard_3 one_sent) act
      there act (inl same) = subst (DueToPropose 1 1 (taking heard_2 one_sent) (taking heard_3 one_sent)) (sym same)
          (complete, inl (record { offered = inl refl; unreported = unreported }))
      there act (inr none) = absurd none

      back : (act : Act) → DueToPropose 1 1 (taking heard_2 one_sent) (taking heard_3 one_sent) act → In (key_of act) (first_id ∷ [])
      back (Proposes slot vote) due = inl (ap (λ (s : Slot). s.id)
          (round_slot slot vote.ballot due.0.running.round.newer due.0.running.round.older due.0.running.round.split))
      back act due = absurd due

  promise_exact : IsExact first_setup (taking heard_2 one_sent) records_2 (Delivery (Promise 1 taken_slot first_ballot None))
      (Proposes taken_slot (taken_vote message) ∷ Receives (Promise 1 taken_slot first_ballot None) ∷ [])
  promise_exact = record {
    core = Receives (Promise 1 taken_slot first_ballot None) ∷ [];
    settles = [];
    late = [];
    asks = [];
    abandons = [];
    prepares = [];
    proposes = Proposes taken_slot (taken_vote message) ∷ [];
    replies = [];
    reports = [];
    acts_are = refl;
    core_is = inl ((record { least = omega arith; most = omega arith }, λ mine. inl refl), record { answer = []; answered = refl; acts_are = refl });
    settled = none_due (DueToSettle 1 1 (taking heard_3 one_sent)) (settles_none heard_3 one_sent);
    ended = none_due (DueToEnd (Delivery (Promise 1 taken_slot first_ballot None)) (taking heard_3 one_sent)) (λ act due. due);
    asked = none_due (DueToAsk 1 1 (taking heard_2 one_sent) (taking heard_3 one_sent) (Delivery (Promise 1 taken_slot first_ballot None)))
        (asks_none (taking heard_2 one_sent) (taking heard_3 one_sent) (Promise 1 taken_slot first_ballot None));
    abandoned = none_due (DueToAbandon 1 1 (taking heard_3 one_sent) records_2 (Delivery (Promise 1 taken_slot first_ballot None))) (λ act due. due);
    prepared = none_due_once (DueToPrepare 1 1 (taking heard_2 one_sent) (taking heard_3 one_sent) records_2
        (Delivery (Promise 1 taken_slot first_ballot None)))
        (prepares_none (taking heard_2 one_sent) (Promise 1 taken_slot first_ballot None) heard_3 one_sent records_2 (λ id place chain a none. none)
        (votes_unfated heard_3 votes_3));
    proposed = one_proposal;
    replied = none_due (DueToReply 1 1 (taking heard_3 one_sent)) (replies_none heard_3 one_sent votes_3);
    reported = none_due (DueToReport 1 1 (taking heard_2 one_sent) (taking heard_3 one_sent)) (reports_none (taking heard_2 one_sent) heard_3 one_sent votes_3);
  }

  -- ---- the Propose comes, and it votes

  -- the promises were a majority's before
  round_of_two : (slot : Slot) (ballot : ℕ) (newer older : List Packet) → two_sent ≡ newer ++ Prepare 1 slot ballot ∷ older →
      (slot ≡ taken_slot) × (ballot ≡ first_ballot)
  round_of_two slot ballot [] older is = absurd (apart_heads is)
    where
      apart_heads : two_sent ≡ Prepare 1 slot ballot ∷ older → ⊥
      apart_heads is = let heads : Propose 1 taken_slot (taken_vote message) ≡ Prepare 1 slot ballot = cc in cc
  round_of_two slot ballot (first ∷ []) older is = let heads : Prepare 1 taken_slot first_ballot ≡ Prepare 1 slot ballot = cc in (cc, cc)
  round_of_two slot ballot (first ∷ next ∷ newer) older is = absurd (never_empty newer older (Prepare 1 slot ballot) cc)

  proposes_none : (before after : List Packet) → IsPromised 1 (taking before two_sent) taken_slot first_ballot → (act : Act) →
      DueToPropose 1 1 (taking before two_sent) (taking after two_sent) act →
      ⊥
  proposes_none before after promised (Proposes slot vote) due =
      let is = round_of_two slot vote.ballot due.0.running.round.newer due.0.running.round.older due.0.running.round.split in
      due.0.new (subst (λ (s : Slot). IsPromised 1 (taking before two_sent) s vote.ballot) (sym is.0)
      (subst (λ (n : ℕ). IsPromised 1 (taking before two_sent) taken_slot n) (sym is.1) promised))
  proposes_none before after promised act due = due

  propose_exact : IsExact first_setup (taking heard_3 two_sent) records_2 (Delivery (Propose 1 taken_slot (taken_vote message)))
      (Votes taken_slot (taken_vote message) true ∷ Receives (Propose 1 taken_slot (taken_vote message)) ∷ [])
  propose_exact = record {
    core = Votes taken_slot (taken_vote message) true ∷ Receives (Propose 1 taken_slot (taken_vote message)) ∷ [];
    settles = [];
    late = [];
    asks = [];
    abandons = [];
    prepares = [];
    proposes = [];
    replies = [];
    reports = [];
    acts_are = refl;
    core_is = inl (
      record { least = omega arith; most = omega arith },
      record
          { answer = Votes taken_slot (taken_vote message) true ∷ []; answered = inl (omega arith, refl); acts_are = refl },
    );
    settled = none_due (DueToSettle 1 1 (taking heard_4 two_sent)) (settles_none heard_4 two_sent);
    ended = none_due (DueToEnd (Delivery (Propose 1 taken_slot (taken_vote message))) (taking heard_4 two_sent)) (λ act due. due);
    asked = none_due (DueToAsk 1 1 (taking heard_3 two_sent) (taking heard_4 two_sent)
        (Delivery (Propose 1 taken_slot (taken_vote message))))
        (asks_none (taking heard_3 two_sent) (taking heard_4 two_sent) (Propose 1 taken_slot (taken_vote message)));
    abandoned = none_due (DueToAbandon 1 1 (taking heard_4 two_sent) records_4 (Delivery (Propose 1 taken_slot (taken_vote message)))) (λ act due. due);
    prepared = none_due_once (DueToPrepare 1 1 (taking heard_3 two_sent) (taking heard_4 two_sent) records_4
        (Delivery (Propose 1 taken_slot (taken_vote message))))
        (prepares_none (taking heard_3 two_sent) (Propose 1 taken_slot (taken_vote message)) heard_4 two_sent records_4
        (λ id place chain a none. none) (votes_unfated heard_4 votes_4));
    proposed = none_due_once (DueToPropose 1 1 (taking heard_3 two_sent) (taking heard_4 two_sent))
        (proposes_none heard_3 heard_4 (all_of_one 1 _ refl (None, inl refl)));
    replied = none_due (DueToReply 1 1 (taking heard_4 two_sent)) (replies_none heard_4 two_sent votes_4);
    reported = none_due (DueToReport 1 1 (taking heard_3 two_sent) (taking heard_4 two_sent)) (reports_none (taking heard_3 two_sent) heard_4 two_sent votes_4);
  }

  -- ---- the Voted comes, and the submit_sm is answered

  taken_known : Knows 1 heard_5 first_id (taken_chain message)
  taken_known = knows heard_5 (taken_chain message) ((omega arith, λ same. refl), (tt, (tt, (tt, tt)))) (inl refl)

  known_id : (id : ℕ) (chain : List Decree) → Knows 1 heard_5 id chain → id ≡ first_id
  known_id id chain known = elim (one_of_one (λ acceptor. In (Voted acceptor (slot_of id chain) (vote_at known.ballot chain)) heard_5) known.learned) [
    | inl same ↦ let slots : slot_of id chain ≡ taken_slot = cc in ap (λ (s : Slot). s.id) slots
    | inr others ↦ absurd (votes_4 1 (slot_of id chain) (vote_at known.ballot chain) others)
  ]

  known_is : (id : ℕ) (chain : List Decree) → Knows 1 heard_5 id chain → chain ≡ taken_chain message
  known_is id chain known = knows_one 1 heard_5 first_id chain (taken_chain message)
      (subst (λ (i : ℕ). Knows 1 heard_5 i chain) (known_id id chain known) known) taken_known

  unfated_5 : (id : ℕ) (known : List Decree) (final : Final) → Knows 1 heard_5 id known → final_in known ≡ Some final → ⊥
  unfated_5 id known final knows is = let none : None ≡ Some final = sym (ap final_in (known_is id known knows)) ∙ is in cc

  unreported_5 : (before : Actor) (act : Act) → DueToReport 1 1 before (taking heard_5 two_sent) act → ⊥
  unreported_5 before (Reports id chain) due =
      untold_newest 1 (taking heard_5 two_sent) chain (decreed (Taken message)) [] (known_is id chain due.known) (λ is. cc) due.told
  unreported_5 before act due = due

  only_accepted : (waiting : Waiting) (answer : Answer) → FitsRequest 1 1 (taking heard_5 two_sent) waiting (Submit first_id message) answer → answer ≡ Accepted
  only_accepted waiting Accepted fits = refl
  only_accepted waiting answer fits = absurd fits

  replies_one : AreDue (DueToReply 1 1 (taking heard_5 two_sent)) (Replies 1 first_id Accepted ∷ [])
  replies_one = record { each = λ act. (there act, back act); order = tt }
    where
      there : (act : Act) → In act (Replies 1 first_id Accepted ∷ []) → DueToReply 1 1 (taking heard_5 two_sent) act
      there act (inl same) = subst (DueToReply 1 1 (taking heard_5 two_sent)) (sym same)
          (record {
            asked = record { waiting = submitted; waits = inl refl; ticket_is = refl; about = refl };
            fits = record
                { chain = taken_chain message; known = taken_known };
          })
      there act (inr none) = absurd none

      back : (act : Act) → DueToReply 1 1 (taking heard_5 two_sent) act → In act (Replies 1 first_id Accepted ∷ [])
      back (Replies ticket id answer) due =
          let is = only (λ w. w ≡ submitted) refl due.asked.waiting due.asked.waits in
          let tickets : ticket ≡ 1 = sym due.asked.ticket_is ∙ ap (λ (w : Waiting). w.ticket) is in
          let ids : id ≡ first_id = sym due.asked.about ∙ ap (λ (w : Waiting). id_in w.request) is in
          let answers = only_accepted submitted answer (subst (λ (w : Waiting). FitsRequest 1 1 (taking heard_5 two_sent) w w.request answer) is due.fits) in
          inl (λ i. Replies (tickets i) (ids i) (answers i))
      back act due = absurd due

  voted_exact : IsExact first_setup (taking heard_4 two_sent) records_4 (Delivery (Voted 1 taken_slot (taken_vote message)))
      (Replies 1 first_id Accepted ∷ Receives (Voted 1 taken_slot (taken_vote message)) ∷ [])
  voted_exact = record {
    core = Receives (Voted 1 taken_slot (taken_vote message)) ∷ [];
    settles = [];
    late = [];
    asks = [];
    abandons = [];
    prepares = [];
    proposes = [];
    replies = Replies 1 first_id Accepted ∷ [];
    reports = [];
    acts_are = refl;
    core_is = inl (
      (record { least = omega arith; most = omega arith }, refl, λ mine. inr (refl, omega arith)),
      record
          { answer = []; answered = refl; acts_are = refl },
    );
    settled = none_due (DueToSettle 1 1 (taking heard_5 two_sent)) (settles_none heard_5 two_sent);
    ended = none_due (DueToEnd (Delivery (Voted 1 taken_slot (taken_vote message))) (taking heard_5 two_sent)) (λ act due. due);
    asked = none_due (DueToAsk 1 1 (taking heard_4 two_sent) (taking heard_5 two_sent) (Delivery (Voted 1 taken_slot (taken_vote message))))
        (asks_none (taking heard_4 two_sent) (taking heard_5 two_sent) (Voted 1 taken_slot (taken_vote message)));
    abandoned = none_due (DueToAbandon 1 1 (taking heard_5 two_sent) records_4 (Delivery (Voted 1 taken_slot (taken_vote message)))) (λ act due. due);
    prepared = none_due_once (DueToPrepare 1 1 (taking heard_4 two_sent) (taking heard_5 two_sent) records_4
        (Delivery (Voted 1 taken_slot (taken_vote message))))
        (prepares_none (taking heard_4 two_sent) (Voted 1 taken_slot (taken_vote message)) heard_5 two_sent records_4
        (λ id place chain a none. none) unfated_5);
    proposed = none_due_once (DueToPropose 1 1 (taking heard_4 two_sent) (taking heard_5 two_sent))
        (proposes_none heard_4 heard_5 (all_of_one 1 _ refl (None, inr (inl refl))));
    replied = replies_one;
    reported = none_due (DueToReport 1 1 (taking heard_4 two_sent) (taking heard_5 two_sent)) (unreported_5 (taking heard_4 two_sent));
  }

  -- ---- all of it

  begun_run : MayBeTried message → AreSteps lone (start 1 (λ node. 1)) (begun_steps message)
  begun_run tried = (
    record {
      run = (
        record { least = omega arith; most = omega arith; up = refl; needs = (refl, refl) },
        (
          record {
            least = omega arith;
            most = omega arith;
            up = refl;
            needs = record {
              next = refl;
              room = refl;
              fit = record {
                serial = record { least = omega arith; most = omega arith };
                id_is = refl;
                takes = record {
                  node = refl;
                  incarnation = refl;
                  expiry = tried.valid;
                  schedule = let s = tried.scheduled in let v =
                      tried.valid in omega (arith, s, v);
                };
              };
            };
          },
          tt,
        ),
      );
      came = tt;
      exact = first_exact message;
    },
    tt,
  )

  promised_run : MayBeTried message → AreSteps lone (start 1 (λ node. 1)) (promised_steps message)
  promised_run tried = (
    record {
      run = (
        record { least = omega arith; most = omega arith; up = refl; needs = record { sender = 1; prepared = inl refl; may = omega arith } },
        (record { least = omega arith; most = omega arith; up = refl; needs = inl refl }, tt),
      );
      came = inl refl;
      exact = prepare_exact;
    },
    begun_run tried,
  )

  proposed_run : MayBeTried message → AreSteps lone (start 1 (λ node. 1)) (proposed_steps message)
  proposed_run tried = (
    record {
      run = (
        record {
          least = omega arith;
          most = omega arith;
          up = refl;
          needs = record {
            proposer = refl;
            incarnation = refl;
            once = λ chain is_in. elim is_in [ inl same ↦ cc | inr none ↦ none ];
            justified = record { highest = None; majority = all_of_one 1 _ refl (record { report = None; made = inl refl; within = tt }); carried = tt };
            free = inr (refl, inl (record { waiting = submitted; message = message; waits = inl refl; submits = refl; chain_is = refl }));
          };
        },
        (record { least = omega arith; most = omega arith; up = refl; needs = inl refl }, tt),
      );
      came = inl refl;
      exact = promise_exact;
    },
    promised_run tried,
  )

  voted_run : MayBeTried message → AreSteps lone (start 1 (λ node. 1)) (voted_steps message)
  voted_run tried = (
    record {
      run = (
        record { least = omega arith; most = omega arith; up = refl; needs = record { sender = 1; proposed = inl refl; may = omega arith } },
        (record { least = omega arith; most = omega arith; up = refl; needs = inl refl }, tt),
      );
      came = inl refl;
      exact = propose_exact;
    },
    proposed_run tried,
  )

  pub taking_run : MayBeTried message → AreSteps lone (start 1 (λ node. 1)) (taking_steps message)
  taking_run tried = (
    record {
      run = (
        record {
          least = omega arith;
          most = omega arith;
          up = refl;
          needs = record {
            asked = record { waiting = submitted; waits = inl refl; ticket_is = refl; about = refl };
            fits = record { chain = taken_chain message; known = taken_known };
          };
        },
        (record { least = omega arith; most = omega arith; up = refl; needs = inl refl }, tt),
      );
      came = inl refl;
      exact = voted_exact;
    },
    voted_run tried,
  )
