-- A Tell settles a query_sm among three nodes.
use Rattle.std.proofs.Common.{◌≡◌, ℕ, false, List, [], ◌∷◌, ◌++◌, Option, Some, None, refl, sym, ◌∙◌, ap, subst, inl, inr, arith}
use Rattle.mc_model.specs.message.Submission.{Submission}
use Rattle.mc_model.specs.message.Decree.{Decree}
use Rattle.mc_model.specs.message.Chain.{final_in}
use Rattle.mc_model.specs.synod.Lists.{In}
use Rattle.mc_model.specs.synod.OneSlot.{Vote, vote_at}
use Rattle.mc_model.specs.synod.Packet.{Slot, slot_at, slot_of, top_at, Packet, Voted, Tell, TopVote}
use Rattle.mc_model.specs.node.Actor.{Actor, Query, Waiting, id_in}
use Rattle.mc_model.specs.node.Knowledge.{IsLearned, Knows}
use Rattle.mc_model.specs.node.Settling.{HasTold, IsReached, IsSettled}
use Rattle.mc_model.specs.node.Proposal.{Cancels}
use Rattle.mc_model.specs.node.Replies.{Shown, FitsRequest}
use Rattle.mc_model.specs.node.Act.{Act, Receives, Settles, Replies, Asks, Prepares, Proposes, Reports}
use Rattle.mc_model.specs.node.Effect.{did}
use Rattle.mc_model.specs.node.Input.{Delivery}
use Rattle.mc_model.specs.node.Due.{AreDue}
use Rattle.mc_model.specs.node.Causes.{Causes}
use Rattle.mc_model.specs.node.Phases.{IsCancelRequest, DueToSettle, DueToEnd, DueToAsk, DueToAbandon, DueToPrepare, DueToPropose, DueToReply, DueToReport}
use Rattle.mc_model.specs.node.Alone.{IsStepAlone}
use Rattle.mc_laws.specs.NodeStories.{no_records, node_of_actor, among_three}
use Rattle.mc_laws.specs.QueryStories.{second_id, second_slot, question, told_by_3, second_chain, second_vote, asking_about, showing}
use Rattle.mc_parts.proofs.Majorities.{both}
use Rattle.mc_parts.proofs.Membership.{in_right, never_empty}
use Rattle.mc_parts.proofs.Known.{knows_one}
use Rattle.mc_parts.proofs.OneAnswer.{one_answer}
use Rattle.mc_laws.proofs.story.FirstStep.{none_due, none_due_once}
use Rattle.mc_laws.proofs.story.Untold.{unfated, untold_newest}
use Rattle.mc_laws.proofs.story.Following.{two_and_three}

module _ (message : Submission) where
  abbrev before : Actor
  before = asking_about message

  abbrev now : Actor
  now = did 1 before (Receives (told_by_3 (second_vote message)) ∷ [])

  abbrev asked : Waiting
  asked = record { ticket = 1; since = 946684800; request = Query second_id message.submitter message.source.digits; settled = false }

  only_asked : (P : Waiting → Type 0) → P asked → (waiting : Waiting) → In waiting (asked ∷ []) → P waiting
  only_asked P holds waiting (inl same) = subst P (sym same) holds
  only_asked P holds waiting (inr none) = absurd none

  -- ---- one vote alone was told

  one_vote : (acceptor : ℕ) (slot : Slot) (vote : Vote) → In (Voted acceptor slot vote) now.received → (slot ≡ second_slot) × (vote ≡ second_vote message)
  one_vote acceptor slot vote (inl same) = cc
  one_vote acceptor slot vote (inr (inl same)) = cc
  one_vote acceptor slot vote (inr (inr (inl same))) = (cc, cc)
  one_vote acceptor slot vote (inr (inr (inr (inl same)))) = (cc, cc)
  one_vote acceptor slot vote (inr (inr (inr (inr none)))) = absurd none

  learned_one : (newer older : List Packet) (slot : Slot) (vote : Vote) → now.received ≡ newer ++ older → IsLearned 3 older slot vote →
      (slot ≡ second_slot) × (vote ≡ second_vote message)
  learned_one newer older slot vote is learned =
      let told = both 3 _ _ learned learned in
      one_vote told.node slot vote (subst (λ (packets : List Packet). In (Voted told.node slot vote) packets) (sym is) (in_right _ newer older told.one))

  known : Knows 3 now.received second_id (second_chain message)
  known = record {
    ballot = (second_vote message).ballot;
    learned = two_and_three _ (inr (inr (inr (inl refl)))) (inr (inr (inl refl)));
    longest = λ place vote learned. let same = ap (λ (s : Slot). s.place) (learned_one [] now.received _ vote refl learned).0 in omega (arith, same);
    first = λ newer older vote is learned. (
      (second_vote message).ballot,
      subst (λ (v : Vote). IsLearned 3 older second_slot v)
          (learned_one newer older second_slot vote is learned).1 learned,
    );
  }

  known_id : (id : ℕ) (chain : List Decree) → Knows 3 now.received id chain → id ≡ second_id
  known_id id chain knows = ap (λ (s : Slot). s.id) (learned_one [] now.received (slot_of id chain) (vote_at knows.ballot chain) refl knows.learned).0

  known_is : (id : ℕ) (chain : List Decree) → Knows 3 now.received id chain → chain ≡ second_chain message
  known_is id chain knows = knows_one 3 now.received second_id chain (second_chain message)
      (subst (λ (i : ℕ). Knows 3 now.received i chain) (known_id id chain knows) knows) known

  -- ---- it is settled

  one_top : (node : ℕ) (told : Option TopVote) → In (Tell node question told) now.received → told ≡ Some (top_at second_slot (second_vote message))
  one_top node told (inl same) = cc
  one_top node told (inr (inl same)) = cc
  one_top node told (inr (inr (inl same))) = cc
  one_top node told (inr (inr (inr (inl same)))) = cc
  one_top node told (inr (inr (inr (inr none)))) = absurd none

  settled : IsSettled 3 now.received question (Some (second_chain message))
  settled = record {
    majority = two_and_three (HasTold now.received question)
        (record { told = Some (top_at second_slot (second_vote message)); heard = inr (inl refl) })
        (record { told = Some (top_at second_slot (second_vote message)); heard = inl refl });
    reached = λ node told is_in. subst (IsReached (Some (second_chain message))) (sym (one_top node told is_in)) (omega arith);
  }

  shown : FitsRequest 3 1 now asked asked.request (Shown (second_chain message))
  shown = record { taken = message; known = known; settled = settled; message = refl; owner = record { same_account = refl; same_source = refl } }

  -- ---- nothing else is due

  settles_none : (act : Act) → DueToSettle 3 1 now act → ⊥
  settles_none (Settles ticket) due = only_asked (λ w. IsCancelRequest w.request → ⊥) (λ none. none) due.waiting due.waits due.cancel
  settles_none act due = due

  asks_none : (act : Act) → DueToAsk 3 1 before now (Delivery (told_by_3 (second_vote message))) act → ⊥
  asks_none (Asks id ticket) due = due
  asks_none act due = due

  prepares_none : (act : Act) → DueToPrepare 3 1 before now no_records (Delivery (told_by_3 (second_vote message))) act → ⊥
  prepares_none (Prepares slot ballot chain) due = by_cause due.0
    where
      by_cause : Causes 3 1 before now (Delivery (told_by_3 (second_vote message))) slot.id slot.place chain → ⊥
      by_cause (inl take) = take
      by_cause (inr (inl close)) = close
      by_cause (inr (inr (inl follow))) =
          let about = sym (only_asked (λ w. id_in w.request ≡ slot.id → second_id ≡ slot.id) (λ same. same) follow.1.waiting follow.1.waits follow.1.about) in
          let tops = one_top follow.1.highest.shown.teller (Some (top_at (slot_at slot.id slot.place) follow.1.vote)) follow.1.highest.shown.heard in
          let same : ◌≡◌ {A = TopVote} (top_at (slot_at slot.id slot.place) follow.1.vote) (top_at second_slot (second_vote message)) = cc in
          let place : slot.place ≡ 0 = ap (λ (t : TopVote). t.place) same in
          let ahead = follow.1.ahead (second_chain message) (subst (λ (i : ℕ). Knows 3 now.received i (second_chain message)) (sym about) known) in
          omega (arith, place, ahead)
      by_cause (inr (inr (inr (inl delete)))) = only_asked (λ w. Cancels w.request slot.id delete.deletes.further.taken → ⊥)
          (λ none. none) delete.deletes.cancelled.waiting delete.deletes.cancelled.waits delete.deletes.cancelled.cancels
      by_cause (inr (inr (inr (inr told)))) = unfated 3 1 now slot.id slot.place chain
          (λ chain final knows is. let none : None ≡ Some final = sym (ap final_in (known_is slot.id chain knows)) ∙ is in cc) told.due
  prepares_none act due = due

  proposes_none : (act : Act) → DueToPropose 3 1 before now act → ⊥
  proposes_none (Proposes slot vote) due = never_empty due.0.running.round.newer due.0.running.round.older _ due.0.running.round.split
  proposes_none act due = due

  reports_none : (act : Act) → DueToReport 3 1 before now act → ⊥
  reports_none (Reports id chain) due =
      untold_newest 1 now chain _ [] (known_is id chain due.known) (λ is. cc) due.told
  reports_none act due = due

  replies_one : AreDue (DueToReply 3 1 now) (Replies 1 second_id (Shown (second_chain message)) ∷ [])
  replies_one = record { each = λ act. (there act, back act); order = tt }
    where
      there : (act : Act) → In act (Replies 1 second_id (Shown (second_chain message)) ∷ []) → DueToReply 3 1 now act
      there act (inl same) = subst (DueToReply 3 1 now) (sym same)
          (record { asked = record { waiting = asked; waits = inl refl; ticket_is = refl; about = refl }; fits = shown })
      there act (inr none) = absurd none

      back : (act : Act) → DueToReply 3 1 now act → In act (Replies 1 second_id (Shown (second_chain message)) ∷ [])
      back (Replies ticket id answer) due =
          let is = only_asked (λ w. w ≡ asked) refl due.asked.waiting due.asked.waits in
          let tickets : ticket ≡ 1 = sym due.asked.ticket_is ∙ ap (λ (w : Waiting). w.ticket) is in
          let ids : id ≡ second_id = sym due.asked.about ∙ ap (λ (w : Waiting). id_in w.request) is in
          let answers = one_answer 3 1 now asked asked.request answer (Shown (second_chain message))
          (subst (λ (w : Waiting). FitsRequest 3 1 now w w.request answer) is due.fits) shown in
          inl (λ i. Replies (tickets i) (ids i) (answers i))
      back act due = absurd due

  pub shows : IsStepAlone among_three (node_of_actor before) (Delivery (told_by_3 (second_vote message))) (showing message)
  shows = record {
    run = (
      record { least = omega arith; most = omega arith; up = refl; needs = record { asked = record { waiting = asked; waits = inl refl; ticket_is = refl; about = refl }; fits = shown } },
      (record { least = omega arith; most = omega arith; up = refl; needs = tt }, tt),
    );
    exact = record {
      core = Receives (told_by_3 (second_vote message)) ∷ [];
      settles = [];
      late = [];
      asks = [];
      abandons = [];
      prepares = [];
      proposes = [];
      replies = Replies 1 second_id (Shown (second_chain message)) ∷ [];
      reports = [];
      acts_are = refl;
      core_is = inl ((record { least = omega arith; most = omega arith }, λ mine same. record { given = omega arith; about = λ waiting waits is. only_asked (λ w. second_id ≡ id_in w.request) refl waiting waits }), record { answer = []; answered = refl; acts_are = refl });
      settled = none_due (DueToSettle 3 1 now) settles_none;
      ended = none_due (DueToEnd (Delivery (told_by_3 (second_vote message))) now) (λ act due. due);
      asked = none_due (DueToAsk 3 1 before now (Delivery (told_by_3 (second_vote message)))) asks_none;
      abandoned = none_due (DueToAbandon 3 1 now no_records (Delivery (told_by_3 (second_vote message)))) (λ act due. due);
      prepared = none_due_once (DueToPrepare 3 1 before now no_records (Delivery (told_by_3 (second_vote message)))) prepares_none;
      proposed = none_due_once (DueToPropose 3 1 before now) proposes_none;
      replied = replies_one;
      reported = none_due (DueToReport 3 1 before now) reports_none;
    };
  }
