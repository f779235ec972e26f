-- A tick starts a round for a vote beyond what is known, for a submit_sm and for a cancel_sm that wait.
use Rattle.std.proofs.Common.{◌≡◌, ℕ, suc, ◌+◌, ◌<◌, ◌≤◌, Bool, true, false, List, [], ◌∷◌, ◌++◌, Some, None, refl, sym, ◌∙◌, ap, subst, subst₂, inl, inr, arith}
use Rattle.std.specs.Prelude.{if◌then◌else◌}
use Rattle.mc_model.specs.message.Submission.{Submission}
use Rattle.mc_model.specs.message.Decree.{Decree, Attempt, Taken, Deleted}
use Rattle.mc_model.specs.message.Chain.{final_in, taken_in}
use Rattle.mc_model.specs.synod.Ballot.{round_in}
use Rattle.mc_model.specs.synod.Lists.{In}
use Rattle.mc_model.specs.synod.Majority.{Majority}
use Rattle.mc_model.specs.synod.OneSlot.{Vote, vote_at}
use Rattle.mc_model.specs.synod.Packet.{Slot, slot_at, slot_of, same_slot, top_at, Packet, Voted, TopVote}
use Rattle.mc_model.specs.synod.Acceptor.{Records, with_record, after_vote}
use Rattle.mc_model.specs.node.Actor.{Actor, Request, Submit, Cancel, Waiting, opened, opening_clock, id_in, name_of}
use Rattle.mc_model.specs.node.Knowledge.{IsLearned, Knows}
use Rattle.mc_model.specs.node.Settling.{HasTold}
use Rattle.mc_model.specs.node.Proposal.{IsMatch}
use Rattle.mc_model.specs.node.Replies.{longest_wait, Answer, Accepted, Removed, Kept, NotMatched, Unknown, TooLate, FitsCancel, FitsRequest, KeepsMessage}
use Rattle.mc_model.specs.node.Rounds.{HasSeen, MayPrepare, sent_since_tick}
use Rattle.mc_model.specs.node.Rules.{IsShownAt}
use Rattle.mc_model.specs.node.FirstRule.{Announce, Rule, Take, Follow, Close, Lose, GiveUp, Delete, Expire, Undeliver, Try, FitsRule, IsFirstRule, order_of}
use Rattle.mc_model.specs.node.Act.{Act, Settles, Replies, Asks, Abandons, Prepares, Proposes, Reports, Ticks}
use Rattle.mc_model.specs.node.Effect.{did}
use Rattle.mc_model.specs.node.Input.{Tick}
use Rattle.mc_model.specs.node.Due.{AreDueOnce, key_of}
use Rattle.mc_model.specs.node.Phases.{IsCancelRequest, DueToSettle, DueToEnd, DueToAsk, DueToAbandon, DueToPrepare, DueToPropose, DueToReply, DueToReport}
use Rattle.mc_model.specs.node.Setup.{Setup}
use Rattle.mc_model.specs.node.Step.{IsExact}
use Rattle.mc_model.specs.node.Alone.{IsStepAlone}
use Rattle.mc_laws.specs.Stories.{first_id, first_ballot, first_setup, decreed, taken_chain, deleted_chain, taken_slot, taken_vote}
use Rattle.mc_laws.specs.NodeStories.{all_up, no_records, node_of_actor, among_three}
use Rattle.mc_laws.specs.TickStories.{voted_before, taking_again, again_ballot, first_question, cancelled_once}
use Rattle.mc_laws.specs.CancelStories.{behind_slot, cancelling_at}
use Rattle.mc_laws.specs.QueryStories.{second_id, second_slot, second_ballot}
use Rattle.mc_parts.proofs.Membership.{never_empty, slots_same}
use Rattle.mc_parts.proofs.Known.{knows_one}
use Rattle.mc_laws.proofs.story.Rounds.{all_of_one, one_of_one}
use Rattle.mc_laws.proofs.story.Delivery.{knows}
use Rattle.mc_laws.proofs.story.FirstStep.{none_due, none_due_once}
use Rattle.mc_laws.proofs.story.Following.{none_known}
use Rattle.mc_laws.proofs.story.Idle.{no_vote_at_all}

-- ---- a tick in which one round is started and nothing else is due

-- no round runs behind a tick
module _ (setup : Setup) (a : Actor) (records : Records) (slot : Slot) (ballot : ℕ) (chain : List Decree) where
  abbrev now : Actor
  now = did setup.node a (Ticks opening_clock ∷ [])

  abbrev Due : Act → Type 0
  Due act = DueToPrepare setup.nodes setup.node a now records (Tick opening_clock all_up) act

  prepares_only : (rule : Rule) → IsFirstRule setup.nodes setup.node now records all_up slot.id slot.place chain rule →
      MayPrepare setup.nodes setup.node now records slot ballot → (act : Act) → In act (Prepares slot ballot chain ∷ []) →
      Due act
  prepares_only rule first may act (inl same) = subst Due (sym same) ((rule, first), may)
  prepares_only rule first may act (inr none) = absurd none

  prepares_all : ((id place : ℕ) (other : List Decree) (rule : Rule) → FitsRule setup.nodes setup.node now records all_up id place other rule → id ≡ slot.id) →
      (act : Act) → Due act →
      In (key_of act) (slot.id ∷ [])
  prepares_all one (Prepares other at of) due = inl (one other.id other.place of due.0.0 due.0.1.fits)
  prepares_all one act due = absurd due

  pub one_round : (rule : Rule) → IsFirstRule setup.nodes setup.node now records all_up slot.id slot.place chain rule →
      MayPrepare setup.nodes setup.node now records slot ballot →
      ((id place : ℕ) (other : List Decree) (rule : Rule) → FitsRule setup.nodes setup.node now records all_up id place other rule → id ≡ slot.id) →
      AreDueOnce Due (Prepares slot ballot chain ∷ [])
  one_round rule first may one = record { only = prepares_only rule first may; all = prepares_all one; order = tt }

  -- nothing is given up where no attempt is known
  abandons_none : ((other : Slot) (of : List Decree) → FitsRule setup.nodes setup.node now records all_up other.id (suc other.place) of GiveUp → ⊥) →
      (act : Act) → DueToAbandon setup.nodes setup.node now records (Tick opening_clock all_up) act →
      ⊥
  abandons_none none (Abandons other) due = none other due.0 due.1.fits
  abandons_none none act due = due

  -- no wait is too long at the opening clock
  proposes_none : (before_tick : (newer older : List Packet) (packet : Packet) → [] ≡ newer ++ packet ∷ older → ⊥) →
      ((newer older : List Packet) (packet : Packet) → sent_since_tick now ≡ newer ++ packet ∷ older → ⊥) → (act : Act) →
      DueToPropose setup.nodes setup.node a now act →
      ⊥
  proposes_none before_tick runs (Proposes other vote) due = runs due.0.running.round.newer due.0.running.round.older _ due.0.running.round.split
  proposes_none before_tick runs act due = due

  pub retry_exact : AreDueOnce Due (Prepares slot ballot chain ∷ []) → ((act : Act) → DueToSettle setup.nodes setup.node now act → ⊥) →
      ((act : Act) → DueToEnd (Tick opening_clock all_up) now act → ⊥) →
      ((act : Act) → DueToAsk setup.nodes setup.node a now (Tick opening_clock all_up) act → ⊥) →
      ((other : Slot) (of : List Decree) → FitsRule setup.nodes setup.node now records all_up other.id (suc other.place) of GiveUp → ⊥) →
      ((newer older : List Packet) (packet : Packet) → sent_since_tick now ≡ newer ++ packet ∷ older → ⊥) →
      ((act : Act) → DueToReply setup.nodes setup.node now act → ⊥) →
      IsExact setup a records (Tick opening_clock all_up) (Prepares slot ballot chain ∷ Ticks opening_clock ∷ [])
  retry_exact prepared settles ends asks gives_up runs replies = record {
    core = Ticks opening_clock ∷ [];
    settles = [];
    late = [];
    asks = [];
    abandons = [];
    prepares = Prepares slot ballot chain ∷ [];
    proposes = [];
    replies = [];
    reports = [];
    acts_are = refl;
    core_is = refl;
    settled = none_due (DueToSettle setup.nodes setup.node now) settles;
    ended = none_due (DueToEnd (Tick opening_clock all_up) now) ends;
    asked = none_due (DueToAsk setup.nodes setup.node a now (Tick opening_clock all_up)) asks;
    abandoned = none_due (DueToAbandon setup.nodes setup.node now records (Tick opening_clock all_up)) (abandons_none gives_up);
    prepared = prepared;
    proposed = none_due_once (DueToPropose setup.nodes setup.node a now) (proposes_none never_empty runs);
    replied = none_due (DueToReply setup.nodes setup.node now) replies;
    reported = none_due (DueToReport setup.nodes setup.node a now) unreported;
  }
    where
      unreported : (act : Act) → DueToReport setup.nodes setup.node a now act → ⊥
      unreported (Reports id other) due = due.new due.known
      unreported act due = due

-- ---- a vote beyond what is known

module _ (chain : List Decree) where
  abbrev records_of : Records
  records_of = with_record no_records second_slot (after_vote (vote_at first_ballot chain))

  abbrev anew : Actor
  anew = did 1 (opened 2 1) (Ticks opening_clock ∷ [])

  own_only : (id place : ℕ) (vote : Vote) → (records_of (slot_at id place)).vote ≡ Some vote →
      (slot_at id place ≡ second_slot) × (vote ≡ vote_at first_ballot chain)
  own_only id place vote is = by_test (same_slot (slot_at id place) second_slot) refl
    where
      by_test : (test : Bool) → same_slot (slot_at id place) second_slot ≡ test → (slot_at id place ≡ second_slot) × (vote ≡ vote_at first_ballot chain)
      by_test true same =
          let held : Some (vote_at first_ballot chain) ≡ Some vote = sym
          (ap (λ (b : Bool). (if b then after_vote (vote_at first_ballot chain) else no_records (slot_at id place)).vote) same) ∙ is in
          let votes : vote ≡ vote_at first_ballot chain = cc in
          (slots_same (slot_at id place) second_slot same, votes)
      by_test false other =
          let none : None ≡ Some vote = sym (ap (λ (b : Bool).
          (if b then after_vote (vote_at first_ballot chain) else no_records (slot_at id place)).vote) other) ∙ is in
          cc

  shown_only : (id place : ℕ) (vote : Vote) → IsShownAt 1 anew records_of id place vote → (slot_at id place ≡ second_slot) × (vote ≡ vote_at first_ballot chain)
  shown_only id place vote (inl told) = absurd told.waits
  shown_only id place vote (inr own) = own_only id place vote own

  rule_id : (id place : ℕ) (other : List Decree) (rule : Rule) → FitsRule 3 1 anew records_of all_up id place other rule → id ≡ second_id
  rule_id id place other Take fits = absurd fits.1.waits
  rule_id id place other Follow fits = ap (λ (s : Slot). s.id) (shown_only id place fits.vote fits.highest.shown).0
  rule_id id place other Close fits = absurd (none_known 3 [] no_vote_at_all _ _ fits.further.known)
  rule_id id place other Lose fits = absurd (none_known 3 [] no_vote_at_all _ _ fits.further.known)
  rule_id id place other GiveUp fits = absurd (none_known 3 [] no_vote_at_all _ _ fits.further.known)
  rule_id id place other Delete fits = absurd (none_known 3 [] no_vote_at_all _ _ fits.further.known)
  rule_id id place other Expire fits = absurd (none_known 3 [] no_vote_at_all _ _ fits.further.known)
  rule_id id place other Undeliver fits = absurd (none_known 3 [] no_vote_at_all _ _ fits.due.further.known)
  rule_id id place other Try fits = absurd (none_known 3 [] no_vote_at_all _ _ fits.due.further.known)
  rule_id id place other Announce fits = absurd (none_known 3 [] no_vote_at_all _ _ fits.further.known)

  follow_first : IsFirstRule 3 1 anew records_of all_up second_id 0 chain Follow
  follow_first = record {
    fits = record {
      vote = vote_at first_ballot chain;
      highest = record {
        shown = inr refl;
        place_most = λ place held shown. let same = ap (λ (s : Slot). s.place) (shown_only second_id place held shown).0 in omega (arith, same);
        ballot_most = λ held shown. let same = ap (λ (v : Vote). v.ballot) (shown_only second_id 0 held shown).1 in omega (arith, same);
      };
      ahead = λ other known. absurd (none_known 3 [] no_vote_at_all _ _ known);
      chain_is = refl;
    };
    first = earlier;
  }
    where
      earlier : (rule : Rule) (place : ℕ) (other : List Decree) → order_of rule < 2 → FitsRule 3 1 anew records_of all_up second_id place other rule → ⊥
      earlier Take place other below fits = fits.1.waits
      earlier Follow place other below fits = omega (arith, below)
      earlier Close place other below fits = omega (arith, below)
      earlier Lose place other below fits = omega (arith, below)
      earlier GiveUp place other below fits = omega (arith, below)
      earlier Delete place other below fits = omega (arith, below)
      earlier Expire place other below fits = omega (arith, below)
      earlier Undeliver place other below fits = omega (arith, below)
      earlier Try place other below fits = omega (arith, below)
      earlier Announce place other below fits = omega (arith, below)

  seen_most : (round : ℕ) → HasSeen 1 anew records_of second_slot round → round ≤ 1
  seen_most round (inl own) = let is : round ≡ 1 = own in omega (arith, is)
  seen_most round (inr (inl refused)) = absurd refused.heard
  seen_most round (inr (inr prepared)) = absurd prepared.sent

  may_follow : MayPrepare 3 1 anew records_of second_slot second_ballot
  may_follow = record {
    none = λ other ballot same running. never_empty running.round.newer running.round.older _ running.round.split;
    next = record { highest = 1; seen = inl refl; most = seen_most; ballot_is = refl; round = record { least = omega arith; most = omega arith } };
  }

  settles_none : (act : Act) → DueToSettle 3 1 anew act → ⊥
  settles_none (Settles ticket) due = due.waits
  settles_none act due = due

  ends_none : (act : Act) → DueToEnd (Tick opening_clock all_up) anew act → ⊥
  ends_none (Replies ticket id TooLate) due = due.asked.waits
  ends_none act due = due

  asks_none : (act : Act) → DueToAsk 3 1 (opened 2 1) anew (Tick opening_clock all_up) act → ⊥
  asks_none (Asks id ticket) due = due.waits
  asks_none act due = due

  replies_none : (act : Act) → DueToReply 3 1 anew act → ⊥
  replies_none (Replies ticket id answer) due = due.asked.waits
  replies_none act due = due

  pub follow_step : IsStepAlone among_three (voted_before chain) (Tick opening_clock all_up)
      (Prepares second_slot second_ballot chain ∷ Ticks opening_clock ∷ [])
  follow_step = record {
    run = (
      record { least = omega arith; most = omega arith; up = refl; needs = (refl, refl) },
      (record { least = omega arith; most = omega arith; up = refl; needs = tt }, tt),
    );
    exact = retry_exact among_three (opened 2 1) records_of second_slot second_ballot chain
        (one_round among_three (opened 2 1) records_of second_slot second_ballot chain Follow follow_first may_follow rule_id)
        settles_none ends_none asks_none (λ other of fits. none_known 3 [] no_vote_at_all _ _ fits.further.known) never_empty replies_none;
  }

-- ---- a submit_sm that waits

module _ (message : Submission) where
  abbrev retaken : Actor
  retaken = did 1 (taking_again message) (Ticks opening_clock ∷ [])

  abbrev submitted : Waiting
  submitted = record { ticket = 1; since = opening_clock; request = Submit first_id message; settled = false }

  only_submit : (P : Waiting → Type 0) → P submitted → (waiting : Waiting) → In waiting (submitted ∷ []) → P waiting
  only_submit P holds waiting (inl same) = subst P (sym same) holds
  only_submit P holds waiting (inr none) = absurd none

  take_id : (id place : ℕ) (other : List Decree) (rule : Rule) → FitsRule 1 1 retaken no_records all_up id place other rule → id ≡ first_id
  take_id id place other Take fits = only_submit (λ w. w.request ≡ Submit id fits.1.message → id ≡ first_id)
      (λ same. cc) fits.1.waiting fits.1.waits fits.1.submits
  take_id id place other Follow fits = elim fits.highest.shown [ inl told ↦ absurd told.told.heard | inr own ↦ cc ]
  take_id id place other Close fits = absurd (none_known 1 [] no_vote_at_all _ _ fits.further.known)
  take_id id place other Lose fits = absurd (none_known 1 [] no_vote_at_all _ _ fits.further.known)
  take_id id place other GiveUp fits = absurd (none_known 1 [] no_vote_at_all _ _ fits.further.known)
  take_id id place other Delete fits = absurd (none_known 1 [] no_vote_at_all _ _ fits.further.known)
  take_id id place other Expire fits = absurd (none_known 1 [] no_vote_at_all _ _ fits.further.known)
  take_id id place other Undeliver fits = absurd (none_known 1 [] no_vote_at_all _ _ fits.due.further.known)
  take_id id place other Try fits = absurd (none_known 1 [] no_vote_at_all _ _ fits.due.further.known)
  take_id id place other Announce fits = absurd (none_known 1 [] no_vote_at_all _ _ fits.further.known)

  take_first : IsFirstRule 1 1 retaken no_records all_up first_id 0 (taken_chain message) Take
  take_first = record {
    fits = (refl, record { waiting = submitted; message = message; waits = inl refl; submits = refl; chain_is = refl });
    first = earlier;
  }
    where
      earlier : (rule : Rule) (place : ℕ) (other : List Decree) → order_of rule < 1 → FitsRule 1 1 retaken no_records all_up first_id place other rule → ⊥
      earlier Take place other below fits = omega (arith, below)
      earlier Follow place other below fits = omega (arith, below)
      earlier Close place other below fits = omega (arith, below)
      earlier Lose place other below fits = omega (arith, below)
      earlier GiveUp place other below fits = omega (arith, below)
      earlier Delete place other below fits = omega (arith, below)
      earlier Expire place other below fits = omega (arith, below)
      earlier Undeliver place other below fits = omega (arith, below)
      earlier Try place other below fits = omega (arith, below)
      earlier Announce place other below fits = omega (arith, below)

  retaken_most : (round : ℕ) → HasSeen 1 retaken no_records taken_slot round → round ≤ 1
  retaken_most round (inl own) = let is : round ≡ 0 = own in omega (arith, is)
  retaken_most round (inr (inl refused)) = absurd refused.heard
  retaken_most round (inr (inr p)) = elim p.sent [
    | inl same ↦ let ballots : p.ballot ≡ first_ballot = cc in let is : round ≡ 1 = p.names ∙ ap round_in ballots in omega (arith, is)
    | inr none ↦ absurd none
  ]

  may_retake : MayPrepare 1 1 retaken no_records taken_slot again_ballot
  may_retake = record {
    none = λ other ballot same running. never_empty running.round.newer running.round.older _ running.round.split;
    next = record {
      highest = 1;
      seen = inr (inr (record { ballot = first_ballot; sent = inl refl; names = refl }));
      most = retaken_most;
      ballot_is = refl;
      round = record { least = omega arith; most = omega arith };
    };
  }

  no_settling : (act : Act) → DueToSettle 1 1 retaken act → ⊥
  no_settling (Settles ticket) due = only_submit (λ w. IsCancelRequest w.request → ⊥) (λ none. none) due.waiting due.waits due.cancel
  no_settling act due = due

  not_late : (act : Act) → DueToEnd (Tick opening_clock all_up) retaken act → ⊥
  not_late (Replies ticket id TooLate) due = only_submit (λ w. w.since + longest_wait ≤ opening_clock → ⊥)
      (λ late. omega (arith, late)) due.asked.waiting due.asked.waits due.late
  not_late act due = due

  no_questions : (act : Act) → DueToAsk 1 1 (taking_again message) retaken (Tick opening_clock all_up) act → ⊥
  no_questions (Asks id ticket) due = only_submit (λ w. ((other : Submission) → w.request ≡ Submit id other → ⊥) → id_in w.request ≡ id → ⊥)
      (λ asks about. asks message (ap (λ (i : ℕ). Submit i message) about)) due.waiting due.waits due.asks due.about
  no_questions act due = due

  no_acceptance : (waiting : Waiting) (answer : Answer) → FitsRequest 1 1 retaken waiting (Submit first_id message) answer → ⊥
  no_acceptance waiting Accepted fits = none_known 1 [] no_vote_at_all _ _ fits.known
  no_acceptance waiting answer fits = fits

  not_answered : (act : Act) → DueToReply 1 1 retaken act → ⊥
  not_answered (Replies ticket id answer) due = only_submit (λ w. (other : Waiting) → FitsRequest 1 1 retaken other w.request answer → ⊥)
      (λ other. no_acceptance other answer) due.asked.waiting due.asked.waits due.asked.waiting due.fits
  not_answered act due = due

  pub take_step : IsStepAlone first_setup (node_of_actor (taking_again message)) (Tick opening_clock all_up)
      (Prepares taken_slot again_ballot (taken_chain message) ∷ Ticks opening_clock ∷ [])
  take_step = record {
    run = (
      record { least = omega arith; most = omega arith; up = refl; needs = (refl, refl) },
      (record { least = omega arith; most = omega arith; up = refl; needs = tt }, tt),
    );
    exact = retry_exact first_setup (taking_again message) no_records taken_slot again_ballot (taken_chain message)
        (one_round first_setup (taking_again message) no_records taken_slot again_ballot (taken_chain message) Take take_first may_retake take_id)
        no_settling not_late no_questions (λ other of fits. none_known 1 [] no_vote_at_all _ _ fits.further.known) never_empty not_answered;
  }

  -- ---- a cancel_sm that waits

  abbrev recalled : Actor
  recalled = did 1 (cancelled_once message) (Ticks opening_clock ∷ [])

  abbrev cancelling : Waiting
  cancelling = cancelling_at message 1 true

  only_cancel : (P : Waiting → Type 0) → P cancelling → (waiting : Waiting) → In waiting (cancelling ∷ []) → P waiting
  only_cancel P holds waiting (inl same) = subst P (sym same) holds
  only_cancel P holds waiting (inr none) = absurd none

  taken_known : Knows 1 recalled.received first_id (taken_chain message)
  taken_known = knows recalled.received (taken_chain message) (tt, ((omega arith, λ same. refl), tt)) (inr (inl refl))

  known_id : (id : ℕ) (chain : List Decree) → Knows 1 recalled.received id chain → id ≡ first_id
  known_id id chain known = elim (one_of_one (λ acceptor. In
      (Voted acceptor (slot_of id chain) (vote_at known.ballot chain)) recalled.received) known.learned) [
        | inl same ↦ cc
        | inr first ↦ elim first [ inl same ↦ let slots : slot_of id chain ≡ taken_slot = cc in ap (λ (s : Slot). s.id) slots | inr none ↦ absurd none ]
      ]

  known_is : (id : ℕ) (chain : List Decree) → Knows 1 recalled.received id chain → chain ≡ taken_chain message
  known_is id chain known = knows_one 1 recalled.received first_id chain (taken_chain message)
      (subst (λ (i : ℕ). Knows 1 recalled.received i chain) (known_id id chain known) known) taken_known

  told_top : (id place : ℕ) (vote : Vote) → IsShownAt 1 recalled no_records id place vote → slot_at id place ≡ taken_slot
  told_top id place vote (inl told) = elim told.told.heard [
    | inl same ↦
        let tops : ◌≡◌ {A = TopVote} (top_at (slot_at id place) vote) (top_at taken_slot (taken_vote message)) = cc in
        λ i. slot_at ((tops i).id) ((tops i).place)
    | inr earlier ↦ elim earlier [ inl same ↦ cc | inr none ↦ absurd none ]
  ]
  told_top id place vote (inr own) = cc

  delete_id : (id place : ℕ) (other : List Decree) (rule : Rule) → FitsRule 1 1 recalled no_records all_up id place other rule → id ≡ first_id
  delete_id id place other Take fits = only_cancel (λ w. w.request ≡ Submit id fits.1.message → id ≡ first_id)
      (λ same. cc) fits.1.waiting fits.1.waits fits.1.submits
  delete_id id place other Follow fits = ap (λ (s : Slot). s.id) (told_top id place fits.vote fits.highest.shown)
  delete_id id place other Close fits = known_id id _ fits.further.known
  delete_id id place other Lose fits = known_id id _ fits.further.known
  delete_id id place other GiveUp fits = known_id id _ fits.further.known
  delete_id id place other Delete fits = known_id id _ fits.further.known
  delete_id id place other Expire fits = known_id id _ fits.further.known
  delete_id id place other Undeliver fits = known_id id _ fits.due.further.known
  delete_id id place other Try fits = known_id id _ fits.due.further.known
  delete_id id place other Announce fits = known_id id _ fits.further.known

  matches : IsMatch message message.submitter message.source.digits []
  matches = record { owner = record { same_account = refl; same_source = refl }; same_destination = inl refl }

  no_attempt : (newest : Decree) (older : List Decree) (id number : ℕ) → Knows 1 recalled.received id (newest ∷ older) → newest.kind ≡ Attempt number → ⊥
  no_attempt newest older id number known is =
      let same = known_is id (newest ∷ older) known in
      let heads : newest ≡ decreed (Taken message) = cc in
      let kinds : Taken message ≡ Attempt number = ap (λ (d : Decree). d.kind) (sym heads) ∙ is in
      cc

  delete_first : IsFirstRule 1 1 recalled no_records all_up first_id 1 (deleted_chain message) Delete
  delete_first = record {
    fits = record {
      further = record { newest = decreed (Taken message); older = []; taken = message; known = taken_known; behind = refl; message = refl; chain_is = refl };
      idle = inl (message, refl);
      cancelled = record { waiting = cancelling; waits = inl refl; settled = refl; cancels = (refl, matches) };
    };
    first = earlier;
  }
    where
      earlier : (rule : Rule) (place : ℕ) (other : List Decree) → order_of rule < 6 → FitsRule 1 1 recalled no_records all_up first_id place other rule → ⊥
      earlier Take place other below fits = only_cancel (λ w. w.request ≡ Submit first_id fits.1.message → ⊥)
          (λ same. cc) fits.1.waiting fits.1.waits fits.1.submits
      earlier Follow place other below fits =
          let at = ap (λ (s : Slot). s.place) (told_top first_id place fits.vote fits.highest.shown) in
          let ahead = fits.ahead (taken_chain message) taken_known in
          omega (arith, at, ahead)
      earlier Close place other below fits = no_attempt fits.further.newest fits.further.older first_id fits.attempt.0.0 fits.further.known fits.attempt.0.1
      earlier Lose place other below fits = no_attempt fits.further.newest fits.further.older first_id fits.attempt.0.0 fits.further.known fits.attempt.0.1
      earlier GiveUp place other below fits = no_attempt fits.further.newest fits.further.older first_id fits.attempt.0.0 fits.further.known fits.attempt.0.1
      earlier Delete place other below fits = omega (arith, below)
      earlier Expire place other below fits = omega (arith, below)
      earlier Undeliver place other below fits = omega (arith, below)
      earlier Try place other below fits = omega (arith, below)
      earlier Announce place other below fits = omega (arith, below)

  seen_none : (round : ℕ) → HasSeen 1 recalled no_records behind_slot round → round ≡ 0
  seen_none round (inl own) = own
  seen_none round (inr (inl refused)) = elim refused.heard [ inl same ↦ cc | inr earlier ↦ elim earlier [ inl same ↦ cc | inr none ↦ absurd none ] ]
  seen_none round (inr (inr prepared)) = absurd prepared.sent

  may_delete : MayPrepare 1 1 recalled no_records behind_slot first_ballot
  may_delete = record {
    none = λ other ballot same running. never_empty running.round.newer running.round.older _ running.round.split;
    next = record {
      highest = 0;
      seen = inl refl;
      most = λ round seen. let none = seen_none round seen in omega (arith, none);
      ballot_is = refl;
      round = record { least = omega arith; most = omega arith };
    };
  }

  settled_before : (act : Act) → DueToSettle 1 1 recalled act → ⊥
  settled_before (Settles ticket) due = only_cancel (λ w. w.settled ≡ false → ⊥) (λ same. cc) due.waiting due.waits due.unsettled
  settled_before act due = due

  in_time : (act : Act) → DueToEnd (Tick opening_clock all_up) recalled act → ⊥
  in_time (Replies ticket id TooLate) due = only_cancel (λ w. w.since + longest_wait ≤ opening_clock → ⊥)
      (λ late. omega (arith, late)) due.asked.waiting due.asked.waits due.late
  in_time act due = due

  told_already : (act : Act) → DueToAsk 1 1 (cancelled_once message) recalled (Tick opening_clock all_up) act → ⊥
  told_already (Asks id ticket) due = only_cancel (λ w. (Majority 1 (HasTold recalled.received (name_of 1 recalled w)) → ⊥) → ⊥)
      (λ lacking. lacking (all_of_one 1 (HasTold recalled.received first_question) refl
      (record { told = Some (top_at taken_slot (taken_vote message)); heard = inl refl }))) due.waiting due.waits due.lacking
  told_already act due = due

  no_answer : (waiting : Waiting) (answer : Answer) → FitsCancel 1 1 recalled waiting message.submitter message.source.digits [] answer →
      id_in waiting.request ≡ first_id →
      ⊥
  no_answer waiting (Removed chain) fits about = let same = known_is (id_in waiting.request) chain fits.known in
      let none : Some Deleted ≡ None = sym fits.deleted ∙ ap final_in same in cc
  no_answer waiting (Kept chain) fits about =
      let chains : chain ≡ taken_chain message = known_is (id_in waiting.request) chain fits.known in
      let same : (fits.newest ∷ fits.older) ≡ taken_chain message = sym fits.chain_is ∙ chains in
      let heads : fits.newest ≡ decreed (Taken message) = cc in
      subst₂ (λ (c : List Decree) (d : Decree). KeepsMessage (final_in c) d.kind) chains heads fits.kept
  no_answer waiting (NotMatched chain) fits about =
      let same = known_is (id_in waiting.request) chain fits.known in
      let takens : Some fits.taken ≡ Some message = sym fits.message ∙ ap taken_in same in
      let is : fits.taken ≡ message = cc in
      fits.other (subst (λ (m : Submission). IsMatch m message.submitter message.source.digits []) (sym is) matches)
  no_answer waiting Unknown fits about = fits.nothing 0 (taken_vote message)
      (subst (λ (i : ℕ). IsLearned 1 recalled.received (slot_at i 0) (taken_vote message)) (sym about) (all_of_one 1 _ refl (inr (inl refl))))
  no_answer waiting answer fits about = fits

  unanswered : (act : Act) → DueToReply 1 1 recalled act → ⊥
  unanswered (Replies ticket id answer) due =
      let request = only_cancel (λ w. w.request ≡ Cancel first_id message.submitter message.source.digits []) refl due.asked.waiting due.asked.waits in
      no_answer due.asked.waiting answer (subst (λ (r : Request). FitsRequest 1 1 recalled due.asked.waiting r answer) request due.fits) (ap id_in request)
  unanswered act due = due

  pub delete_step : IsStepAlone first_setup (node_of_actor (cancelled_once message)) (Tick opening_clock all_up)
      (Prepares behind_slot first_ballot (deleted_chain message) ∷ Ticks opening_clock ∷ [])
  delete_step = record {
    run = (
      record { least = omega arith; most = omega arith; up = refl; needs = (refl, refl) },
      (record { least = omega arith; most = omega arith; up = refl; needs = tt }, tt),
    );
    exact = retry_exact first_setup (cancelled_once message) no_records behind_slot first_ballot (deleted_chain message)
        (one_round first_setup (cancelled_once message) no_records behind_slot first_ballot (deleted_chain message) Delete delete_first may_delete delete_id)
        settled_before in_time told_already
        (λ other of fits. no_attempt fits.further.newest fits.further.older other.id fits.attempt.0.0 fits.further.known fits.attempt.0.1)
        never_empty unanswered;
  }
