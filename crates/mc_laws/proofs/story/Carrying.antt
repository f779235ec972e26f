-- A round for the vote with which an incarnation began is carried on, though the node has voted for another chain since.
use Rattle.std.proofs.Common.{◌≡◌, ℕ, List, [], ◌∷◌, ◌++◌, Option, Some, None, refl, sym, ap, subst, inl, inr, arith}
use Rattle.mc_model.specs.message.Decree.{Decree}
use Rattle.mc_model.specs.synod.Lists.{In}
use Rattle.mc_model.specs.synod.OneSlot.{Vote, vote_at}
use Rattle.mc_model.specs.synod.Packet.{Slot, Packet, Prepare, Promise}
use Rattle.mc_model.specs.synod.Acceptor.{Records}
use Rattle.mc_model.specs.node.Actor.{Actor}
use Rattle.mc_model.specs.node.Act.{Act, Receives, Settles, Replies, Asks, Prepares, Proposes, Reports}
use Rattle.mc_model.specs.node.Effect.{did}
use Rattle.mc_model.specs.node.Rounds.{IsRunning}
use Rattle.mc_model.specs.node.Input.{Delivery}
use Rattle.mc_model.specs.node.Causes.{Causes, IsCompleted}
use Rattle.mc_model.specs.node.Due.{AreDueOnce, key_of}
use Rattle.mc_model.specs.node.Phases.{DueToSettle, DueToEnd, DueToAsk, DueToAbandon, DueToPrepare, DueToPropose, DueToReply, DueToReport}
use Rattle.mc_model.specs.node.Alone.{IsStepAlone}
use Rattle.mc_laws.specs.NodeStories.{among_three}
use Rattle.mc_laws.specs.QueryStories.{second_id, second_slot, second_ballot, carrying, carrying_on}
use Rattle.mc_laws.proofs.story.FirstStep.{none_due, none_due_once}
use Rattle.mc_parts.proofs.Membership.{never_empty}
use Rattle.mc_laws.proofs.story.Following.{NoVotes, none_known, two_and_three, few_told}

module _ (vote : Vote) (other : List Decree) where
  abbrev before : Actor
  before = (carrying vote other).actor

  abbrev now : Actor
  now = did 1 before (Receives (Promise 3 second_slot second_ballot None) ∷ [])

  no_votes : NoVotes now.received
  no_votes acceptor slot held (inl same) = cc
  no_votes acceptor slot held (inr (inl same)) = cc
  no_votes acceptor slot held (inr (inr (inl same))) = cc
  no_votes acceptor slot held (inr (inr (inr none))) = none

  round_slot : (slot : Slot) (ballot : ℕ) (newer older : List Packet) →
      (Prepare 1 second_slot second_ballot ∷ []) ≡ newer ++ Prepare 1 slot ballot ∷ older →
      slot ≡ second_slot
  round_slot slot ballot [] older is = let heads : Prepare 1 second_slot second_ballot ≡ Prepare 1 slot ballot = cc in cc
  round_slot slot ballot (first ∷ newer) older is = absurd (never_empty newer older (Prepare 1 slot ballot) cc)

  -- nothing waits and nothing is known
  settles_none : (act : Act) → DueToSettle 3 1 now act → ⊥
  settles_none (Settles ticket) due = due.waits
  settles_none act due = due

  asks_none : (act : Act) → DueToAsk 3 1 before now (Delivery (Promise 3 second_slot second_ballot None)) act → ⊥
  asks_none (Asks id ticket) due = due
  asks_none act due = due

  prepares_none : (records : Records) (act : Act) → DueToPrepare 3 1 before now records (Delivery (Promise 3 second_slot second_ballot None)) act → ⊥
  prepares_none records (Prepares slot ballot chain) due = by_cause due.0
    where
      by_cause : Causes 3 1 before now (Delivery (Promise 3 second_slot second_ballot None)) slot.id slot.place chain → ⊥
      by_cause (inl take) = take
      by_cause (inr (inl close)) = close
      by_cause (inr (inr (inl follow))) = follow
      by_cause (inr (inr (inr (inl delete)))) = delete.deletes.cancelled.waits
      by_cause (inr (inr (inr (inr told)))) = none_known 3 now.received no_votes _ _ told.due.further.known
  prepares_none records act due = due

  replies_none : (act : Act) → DueToReply 3 1 now act → ⊥
  replies_none (Replies ticket id answer) due = due.asked.waits
  replies_none act due = due

  reports_none : (act : Act) → DueToReport 3 1 before now act → ⊥
  reports_none (Reports id chain) due = none_known 3 now.received no_votes id chain due.known
  reports_none act due = due

  -- the round has its promises now
  promised_by_2 : (slot : Slot) (ballot node : ℕ) → (report : Option Vote) × In (Promise node slot ballot report) before.received → node ≡ 2
  promised_by_2 slot ballot node p = elim p.1 [ inl same ↦ cc | inr earlier ↦ elim earlier [ inl same ↦ cc | inr none ↦ absurd none ] ]

  running : IsRunning 3 1 now second_slot second_ballot
  running = record {
    round = record { newer = []; older = []; split = refl; newest = λ sender at above none. absurd none };
    accepted = λ refused. elim refused.heard [
      | inl same ↦ cc
      | inr earlier ↦ elim earlier [ inl same ↦ cc | inr first ↦ elim first [ inl same ↦ cc | inr none ↦ none ] ]
    ];
    short = λ reached. none_known 3 now.received no_votes second_id reached.chain reached.known;
  }

  no_reports : (acceptor : ℕ) (top : Vote) → In (Promise acceptor second_slot second_ballot (Some top)) now.received → ⊥
  no_reports acceptor top is_in = elim is_in [
    | inl same ↦ cc
    | inr earlier ↦ elim earlier [ inl same ↦ cc | inr first ↦ elim first [ inl same ↦ cc | inr none ↦ none ] ]
  ]

  complete : IsCompleted 3 1 before now second_slot second_ballot
  complete = record {
    running = running;
    promised = two_and_three _ (None, inr (inl refl)) (None, inl refl);
    new = λ majority. few_told _ (promised_by_2 second_slot second_ballot) majority;
  }

  one_proposal : AreDueOnce (DueToPropose 3 1 before now) (Proposes second_slot (vote_at second_ballot vote.chain) ∷ [])
  one_proposal = record { only = only; all = all; order = tt }
    where
      only : (act : Act) → In act (Proposes second_slot (vote_at second_ballot vote.chain) ∷ []) → DueToPropose 3 1 before now act
      only act (inl same) = subst (DueToPropose 3 1 before now) (sym same) (complete, inl (record { offered = inl refl; unreported = no_reports }))
      only act (inr none) = absurd none

      all : (act : Act) → DueToPropose 3 1 before now act → In (key_of act) (second_id ∷ [])
      all (Proposes slot voted) due = inl (ap (λ (s : Slot). s.id)
          (round_slot slot voted.ballot due.0.running.round.newer due.0.running.round.older due.0.running.round.split))
      all act due = absurd due

  pub carried_on : IsStepAlone among_three (carrying vote other) (Delivery (Promise 3 second_slot second_ballot None)) (carrying_on vote)
  carried_on = record {
    run = (
      record {
        least = omega arith;
        most = omega arith;
        up = refl;
        needs = record {
          proposer = refl;
          incarnation = refl;
          once = λ chain is_in. elim is_in [ inl same ↦ cc | inr none ↦ none ];
          justified = record {
            highest = None;
            majority = two_and_three _ (record { report = None; made = inr (inl refl); within = tt }) (record { report = None; made = inl refl; within = tt });
            carried = tt;
          };
          free = inl (inr (inr (inr (inr (vote.ballot, refl)))));
        };
      },
      (record { least = omega arith; most = omega arith; up = refl; needs = tt }, tt),
    );
    exact = record {
      core = Receives (Promise 3 second_slot second_ballot None) ∷ [];
      settles = [];
      late = [];
      asks = [];
      abandons = [];
      prepares = [];
      proposes = Proposes second_slot (vote_at second_ballot vote.chain) ∷ [];
      replies = [];
      reports = [];
      acts_are = refl;
      core_is = inl ((record { least = omega arith; most = omega arith }, λ mine. inl refl), record { answer = []; answered = refl; acts_are = refl });
      settled = none_due (DueToSettle 3 1 now) settles_none;
      ended = none_due (DueToEnd (Delivery (Promise 3 second_slot second_ballot None)) now) (λ act due. due);
      asked = none_due (DueToAsk 3 1 before now (Delivery (Promise 3 second_slot second_ballot None))) asks_none;
      abandoned = none_due (DueToAbandon 3 1 now (carrying vote other).records (Delivery (Promise 3 second_slot second_ballot None))) (λ act due. due);
      prepared = none_due_once (DueToPrepare 3 1 before now (carrying vote other).records
          (Delivery (Promise 3 second_slot second_ballot None))) (prepares_none (carrying vote other).records);
      proposed = one_proposal;
      replied = none_due (DueToReply 3 1 now) replies_none;
      reported = none_due (DueToReport 3 1 before now) reports_none;
    };
  }
