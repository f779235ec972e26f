-- A second cancel_sm that is settled starts a round of its own.
use Rattle.std.proofs.Common.{◌≡◌, ℕ, ◌≤◌, true, false, List, [], ◌∷◌, ◌++◌, Option, Some, None, refl, sym, ◌∙◌, ap, subst, subst₂, inl, inr, arith}
use Rattle.mc_model.specs.message.Submission.{Submission}
use Rattle.mc_model.specs.message.Decree.{Decree, Taken, Deleted}
use Rattle.mc_model.specs.message.Chain.{final_in, taken_in}
use Rattle.mc_model.specs.synod.Lists.{In}
use Rattle.mc_model.specs.synod.Ballot.{round_in}
use Rattle.mc_model.specs.synod.OneSlot.{vote_at}
use Rattle.mc_model.specs.synod.Packet.{Slot, slot_at, slot_of, top_at, Packet, Prepare, Voted, Tell, TopVote}
use Rattle.mc_model.specs.node.Actor.{Actor, Request, Cancel, Waiting, id_in}
use Rattle.mc_model.specs.node.Knowledge.{IsLearned, Knows}
use Rattle.mc_model.specs.node.Settling.{HasTold, IsReached, IsSettled}
use Rattle.mc_model.specs.node.Proposal.{IsMatch}
use Rattle.mc_model.specs.node.Replies.{Answer, Removed, Kept, NotMatched, Unknown, FitsCancel, FitsRequest, KeepsMessage}
use Rattle.mc_model.specs.node.Act.{Act, Receives, Settles, Replies, Asks, Prepares, Proposes, Reports}
use Rattle.mc_model.specs.node.Effect.{did}
use Rattle.mc_model.specs.node.Rounds.{HasSeen, MayPrepare, IsRefused, IsRunning}
use Rattle.mc_model.specs.node.Input.{Delivery}
use Rattle.mc_model.specs.node.Causes.{Causes, WasSettled}
use Rattle.mc_model.specs.node.Due.{AreDue, AreDueOnce, key_of}
use Rattle.mc_model.specs.node.Phases.{DueToSettle, DueToEnd, DueToAsk, DueToAbandon, DueToPrepare, DueToPropose, DueToReply, DueToReport}
use Rattle.mc_model.specs.node.Alone.{IsStepAlone}
use Rattle.mc_laws.specs.Stories.{first_id, first_ballot, first_setup, decreed, taken_chain, deleted_chain, taken_slot, taken_vote}
use Rattle.mc_laws.specs.NodeStories.{no_records, node_of_actor}
use Rattle.mc_laws.specs.CancelStories.{behind_slot, high_ballot, next_ballot, second_question, told_of_taking, cancelling_at}
use Rattle.mc_laws.specs.CancelStories.{cancelled_twice, cancelling_again}
use Rattle.mc_laws.proofs.story.Untold.{untold_newest}
use Rattle.mc_laws.proofs.story.Rounds.{all_of_one, one_of_one}
use Rattle.mc_parts.proofs.Known.{knows_one}
use Rattle.mc_parts.proofs.Membership.{never_empty}
use Rattle.mc_laws.proofs.story.Delivery.{knows}
use Rattle.mc_laws.proofs.story.FirstStep.{none_due, none_due_once}

module _ (message : Submission) where
  abbrev before : Actor
  before = cancelled_twice message

  abbrev heard : Actor
  heard = did 1 before (Receives (told_of_taking message) ∷ [])

  abbrev now : Actor
  now = did 1 before (Settles 2 ∷ Receives (told_of_taking message) ∷ [])

  -- ---- what is known

  taken_known : Knows 1 heard.received first_id (taken_chain message)
  taken_known = knows heard.received (taken_chain message) (tt, (tt, ((omega arith, λ same. refl), tt))) (inr (inr (inl refl)))

  known_id : (id : ℕ) (chain : List Decree) → Knows 1 heard.received id chain → id ≡ first_id
  known_id id chain known = elim (one_of_one (λ acceptor. In (Voted acceptor (slot_of id chain) (vote_at known.ballot chain)) heard.received) known.learned) [
    | inl same ↦ cc
    | inr earlier ↦ elim earlier [
      | inl same ↦ cc
      | inr first ↦ elim first [ inl same ↦ let slots : slot_of id chain ≡ taken_slot = cc in ap (λ (s : Slot). s.id) slots | inr none ↦ absurd none ]
    ]
  ]

  known_is : (id : ℕ) (chain : List Decree) → Knows 1 heard.received id chain → chain ≡ taken_chain message
  known_is id chain known = knows_one 1 heard.received first_id chain (taken_chain message)
      (subst (λ (i : ℕ). Knows 1 heard.received i chain) (known_id id chain known) known) taken_known

  -- ---- which requests wait

  of_both : (P : Waiting → Type 0) (one other : Waiting) → P one → P other → (waiting : Waiting) → In waiting (one ∷ other ∷ []) → P waiting
  of_both P one other first second waiting (inl same) = subst P (sym same) first
  of_both P one other first second waiting (inr (inl same)) = subst P (sym same) second
  of_both P one other first second waiting (inr (inr none)) = absurd none

  only_told : (node : ℕ) (told : Option TopVote) → In (Tell node second_question told) heard.received → told ≡ Some (top_at taken_slot (taken_vote message))
  only_told node told (inl same) = cc
  only_told node told (inr (inl same)) = cc
  only_told node told (inr (inr (inl same))) = cc
  only_told node told (inr (inr (inr none))) = absurd none

  second_settled : IsSettled 1 heard.received second_question (Some (taken_chain message))
  second_settled = record {
    majority = all_of_one 1 (HasTold heard.received second_question) refl (record { told = Some (top_at taken_slot (taken_vote message)); heard = inl refl });
    reached = λ node told is_in. subst (IsReached (Some (taken_chain message))) (sym (only_told node told is_in)) (omega arith);
  }

  settles_second : AreDue (DueToSettle 1 1 heard) (Settles 2 ∷ [])
  settles_second = record { each = λ act. (there act, back act); order = tt }
    where
      there : (act : Act) → In act (Settles 2 ∷ []) → DueToSettle 1 1 heard act
      there act (inl same) = subst (DueToSettle 1 1 heard) (sym same) (record {
        waiting = cancelling_at message 2 false;
        known = Some (taken_chain message);
        waits = inr (inl refl);
        ticket_is = refl;
        cancel = tt;
        unsettled = refl;
        knows = taken_known;
        settled = second_settled;
      })
      there act (inr none) = absurd none

      back : (act : Act) → DueToSettle 1 1 heard act → In act (Settles 2 ∷ [])
      back (Settles ticket) due =
          let is : due.waiting.ticket ≡ 2 = of_both (λ w. w.settled ≡ false → w.ticket ≡ 2) (cancelling_at message 1 true)
          (cancelling_at message 2 false) (λ clash. absurd cc) (λ same. refl) due.waiting due.waits due.unsettled in
          inl (ap (λ (t : ℕ). Settles t) (sym due.ticket_is ∙ is))
      back act due = absurd due

  -- ---- the round that was refused does not run

  one_round : (slot : Slot) (ballot : ℕ) (newer older : List Packet) →
      (Prepare 1 behind_slot first_ballot ∷ []) ≡ newer ++ Prepare 1 slot ballot ∷ older →
      (slot ≡ behind_slot) × (ballot ≡ first_ballot)
  one_round slot ballot [] older is = let heads : Prepare 1 behind_slot first_ballot ≡ Prepare 1 slot ballot = cc in (cc, cc)
  one_round slot ballot (first ∷ newer) older is = absurd (never_empty newer older (Prepare 1 slot ballot) cc)

  refused : (slot : Slot) (ballot : ℕ) → IsRunning 1 1 now slot ballot → ⊥
  refused slot ballot running =
      let is = one_round slot ballot running.round.newer running.round.older running.round.split in
      running.accepted (subst (λ (s : Slot). IsRefused now s ballot) (sym is.0)
      (subst (λ (n : ℕ). IsRefused now behind_slot n) (sym is.1)
      (record { sender = 1; promised = high_ballot; heard = inr (inl refl); greater = omega arith })))

  proposes_none : (act : Act) → DueToPropose 1 1 before now act → ⊥
  proposes_none (Proposes slot vote) due = refused slot vote.ballot due.0.running
  proposes_none act due = due

  -- ---- the second starts a round

  matches : IsMatch message message.submitter message.source.digits []
  matches = record { owner = record { same_account = refl; same_source = refl }; same_destination = inl refl }

  not_settled : WasSettled before 2 → ⊥
  not_settled was = of_both (λ w. w.ticket ≡ 2 → w.settled ≡ true → ⊥) (cancelling_at message 1 true) (cancelling_at message 2 false)
      (λ ticket settled. omega (arith, ticket)) (λ ticket settled. cc) was.waiting was.waits was.ticket_is was.settled

  seen_most : (round : ℕ) → HasSeen 1 now no_records behind_slot round → round ≤ 5
  seen_most round (inl own) = omega (arith, own)
  seen_most round (inr (inl r)) = elim r.heard [
    | inl same ↦ cc
    | inr earlier ↦ elim earlier [
      | inl same ↦
          let promises : r.promised ≡ high_ballot = cc in
          let is : round ≡ 5 = r.names ∙ ap round_in promises in
          omega (arith, is)
      | inr first ↦ elim first [ inl same ↦ cc | inr none ↦ absurd none ]
    ]
  ]
  seen_most round (inr (inr p)) = elim p.sent [
    | inl same ↦ let ballots : p.ballot ≡ first_ballot = cc in let is : round ≡ 1 = p.names ∙ ap round_in ballots in omega (arith, is)
    | inr none ↦ absurd none
  ]

  prepares_so : MayPrepare 1 1 now no_records behind_slot next_ballot
  prepares_so = record {
    none = λ other ballot same running. refused other ballot running;
    next = record {
      highest = 5;
      seen = inr (inl (record {
        sender = 1;
        ballot = first_ballot;
        promised = high_ballot;
        heard = inr (inl refl);
        proposer = refl;
        incarnation = refl;
        names = refl;
      }));
      most = seen_most;
      ballot_is = refl;
      round = record { least = omega arith; most = omega arith };
    };
  }

  abbrev Due : Act → Type 0
  Due act = DueToPrepare 1 1 before now no_records (Delivery (told_of_taking message)) act

  prepares_one : AreDueOnce Due (Prepares behind_slot next_ballot (deleted_chain message) ∷ [])
  prepares_one = record { only = only; all = all; order = tt }
    where
      only : (act : Act) → In act (Prepares behind_slot next_ballot (deleted_chain message) ∷ []) → Due act
      only act (inl same) = subst Due (sym same) (
        inr (inr (inr (inl (record {
          deletes = record {
            further = record {
              newest = decreed (Taken message);
              older = [];
              taken = message;
              known = taken_known;
              behind = refl;
              message =
                  refl;
              chain_is = refl;
            };
            idle = inl (message, refl);
            cancelled = record { waiting = cancelling_at message 2 true; waits = inr (inl refl); settled = refl; cancels = (refl, matches) };
          };
          new = λ was known. not_settled was;
        })))),
        prepares_so,
      )
      only act (inr none) = absurd none

      all : (act : Act) → Due act → In (key_of act) (first_id ∷ [])
      all (Prepares slot ballot chain) due = inl (by_cause due.0)
        where
          by_cause : Causes 1 1 before now (Delivery (told_of_taking message)) slot.id slot.place chain → slot.id ≡ first_id
          by_cause (inl take) = absurd take
          by_cause (inr (inl close)) = absurd close
          by_cause (inr (inr (inl follow))) = sym follow.1.about ∙ of_both (λ w. id_in w.request ≡ first_id) (cancelling_at message 1 true)
              (cancelling_at message 2 true) refl refl follow.1.waiting follow.1.waits
          by_cause (inr (inr (inr (inl delete)))) = known_id slot.id _ delete.deletes.further.known
          by_cause (inr (inr (inr (inr told)))) = known_id slot.id _ told.due.further.known
      all act due = absurd due

  -- ---- nothing else is due

  asks_none : (act : Act) → DueToAsk 1 1 before now (Delivery (told_of_taking message)) act → ⊥
  asks_none (Asks id ticket) due = due
  asks_none act due = due

  no_answer : (waiting : Waiting) (answer : Answer) → FitsCancel 1 1 now waiting message.submitter message.source.digits [] answer →
      id_in waiting.request ≡ first_id →
      ⊥
  no_answer waiting (Removed chain) fits about = let same = known_is (id_in waiting.request) chain fits.known in
      let none : Some Deleted ≡ None = sym fits.deleted ∙ ap final_in same in cc
  no_answer waiting (Kept chain) fits about =
      let chains : chain ≡ taken_chain message = known_is (id_in waiting.request) chain fits.known in
      let same : (fits.newest ∷ fits.older) ≡ taken_chain message = sym fits.chain_is ∙ chains in
      let heads : fits.newest ≡ decreed (Taken message) = cc in
      subst₂ (λ (c : List Decree) (d : Decree). KeepsMessage (final_in c) d.kind) chains heads fits.kept
  no_answer waiting (NotMatched chain) fits about =
      let same = known_is (id_in waiting.request) chain fits.known in
      let takens : Some fits.taken ≡ Some message = sym fits.message ∙ ap taken_in same in
      let is : fits.taken ≡ message = cc in
      fits.other (subst (λ (m : Submission). IsMatch m message.submitter message.source.digits []) (sym is) matches)
  no_answer waiting Unknown fits about = fits.nothing 0 (taken_vote message)
      (subst (λ (i : ℕ). IsLearned 1 heard.received (slot_at i 0) (taken_vote message)) (sym about) (all_of_one 1 _ refl (inr (inr (inl refl)))))
  no_answer waiting answer fits about = fits

  replies_none : (act : Act) → DueToReply 1 1 now act → ⊥
  replies_none (Replies ticket id answer) due =
      let request = of_both (λ w. w.request ≡ Cancel first_id message.submitter message.source.digits []) (cancelling_at message 1 true)
      (cancelling_at message 2 true) refl refl due.asked.waiting due.asked.waits in
      no_answer due.asked.waiting answer (subst (λ (r : Request). FitsRequest 1 1 now due.asked.waiting r answer) request due.fits) (ap id_in request)
  replies_none act due = due

  reports_none : (act : Act) → DueToReport 1 1 before heard act → ⊥
  reports_none (Reports id chain) due =
      untold_newest 1 heard chain (decreed (Taken message)) [] (known_is id chain due.known) (λ is. cc) due.told
  reports_none act due = due

  pub again : IsStepAlone first_setup (node_of_actor before) (Delivery (told_of_taking message)) (cancelling_again message)
  again = record {
    run = (
      record { least = omega arith; most = omega arith; up = refl; needs = (refl, refl) },
      (
        record {
          least = omega arith;
          most = omega arith;
          up = refl;
          needs = record {
            id = first_id;
            known = Some (taken_chain message);
            asked = record { waiting = cancelling_at message 2 false; waits = inr (inl refl); ticket_is = refl; about = refl };
            knows = taken_known;
            settled = second_settled;
          };
        },
        (record { least = omega arith; most = omega arith; up = refl; needs = tt }, tt),
      ),
    );
    exact = record {
      core = Receives (told_of_taking message) ∷ [];
      settles = Settles 2 ∷ [];
      late = [];
      asks = [];
      abandons = [];
      prepares = Prepares behind_slot next_ballot (deleted_chain message) ∷ [];
      proposes = [];
      replies = [];
      reports = [];
      acts_are = refl;
      core_is = inl ((record { least = omega arith; most = omega arith }, λ mine same. record { given = omega arith; about = λ waiting waits is. of_both (λ w. first_id ≡ id_in w.request) (cancelling_at message 1 true) (cancelling_at message 2 false) refl refl waiting waits }), record { answer = []; answered = refl; acts_are = refl });
      settled = settles_second;
      ended = none_due (DueToEnd (Delivery (told_of_taking message)) now) (λ act due. due);
      asked = none_due (DueToAsk 1 1 before now (Delivery (told_of_taking message))) asks_none;
      abandoned = none_due (DueToAbandon 1 1 now no_records (Delivery (told_of_taking message))) (λ act due. due);
      prepared = prepares_one;
      proposed = none_due_once (DueToPropose 1 1 before now) proposes_none;
      replied = none_due (DueToReply 1 1 now) replies_none;
      reported = none_due (DueToReport 1 1 before heard) reports_none;
    };
  }
