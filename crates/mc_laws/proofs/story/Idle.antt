-- Steps of a node at which no request waits and no round runs.
use Rattle.std.proofs.Common.{◌≡◌, ℕ, suc, ◌+◌, ◌<◌, true, false, List, [], ◌∷◌, ◌++◌, refl, sym, subst, inl, inr, arith}
use Rattle.mc_model.specs.message.Submission.{Submission}
use Rattle.mc_model.specs.message.Decree.{Decree, Attempt, Delivered}
use Rattle.mc_model.specs.synod.Lists.{In}
use Rattle.mc_model.specs.synod.Packet.{Slot, slot_at, slot_of, Packet, Prepare, Promise, Propose, Voted, Refused, Ask, Tell}
use Rattle.mc_model.specs.synod.Acceptor.{Records}
use Rattle.mc_model.specs.node.Setup.{Setup}
use Rattle.mc_model.specs.node.Outcome.{Outcome, Concluded}
use Rattle.mc_model.specs.node.Actor.{Actor, Waiting, opened, opening_clock}
use Rattle.mc_model.specs.node.Room.{queue_full}
use Rattle.mc_model.specs.node.Knowledge.{Knows}
use Rattle.mc_model.specs.node.Act.{Act, Receives, Promises, Settles, Replies, Asks, Prepares, Proposes, Reports, Grants, Concludes, Stops, Restarts}
use Rattle.mc_model.specs.node.Effect.{did, saved}
use Rattle.mc_model.specs.node.Rounds.{HasSeen, MayPrepare, sent_since_tick}
use Rattle.mc_model.specs.node.Input.{Input, Delivery, Crash, Arrival, Tick, Refusal, Grant, Response, Restart}
use Rattle.mc_model.specs.node.Causes.{Causes, CausesClose, CausesFollow, CausesTold}
use Rattle.mc_model.specs.node.Due.{AreDueOnce, key_of}
use Rattle.mc_model.specs.node.Core.{IsCore}
use Rattle.mc_model.specs.node.Phases.{IsStarted, DueToSettle, DueToEnd, DueToAsk, DueToAbandon, DueToPrepare, DueToPropose, DueToReply, DueToReport}
use Rattle.mc_model.specs.node.Step.{IsExact}
use Rattle.mc_model.specs.node.Alone.{Node, IsStepAlone, opened_new}
use Rattle.mc_laws.specs.Stories.{first_id, first_ballot, first_setup, decreed, taken_chain, attempted_chain, delivered_chain}
use Rattle.mc_laws.specs.NodeStories.{knowing, no_records, node_of_actor, among_three, used_up, first_attempt}
use Rattle.mc_laws.proofs.story.FirstStep.{none_due, none_due_once}
use Rattle.mc_laws.proofs.story.Untold.{nothing_new}
use Rattle.mc_laws.proofs.story.Ticks.{known_here}
use Rattle.mc_parts.proofs.Membership.{never_empty}
use Rattle.mc_laws.proofs.story.Following.{NoVotes, none_known}

-- ---- what is due at such a node

-- a tick and a request that waits are not looked at here
abbrev pub IsPlain : Input → Type 0
IsPlain (Delivery packet) = Unit {0}
IsPlain (Crash packet after) = Unit {0}
IsPlain (Refusal status) = Unit {0}
IsPlain (Grant slot) = Unit {0}
IsPlain (Response slot outcome) = Unit {0}
IsPlain (Restart lost) = Unit {0}
IsPlain input = ⊥

pub record IsIdle (a : Actor) : Type 0 where
  pub waits : (waiting : Waiting) → In waiting a.waiting → ⊥
  pub runs : (newer older : List Packet) (packet : Packet) → sent_since_tick a ≡ newer ++ packet ∷ older → ⊥

module _ (setup : Setup) (a : Actor) (records : Records) (input : Input) (core : List Act) (plain : IsPlain input) (idle : IsIdle (did setup.node a core)) where
  abbrev b : Actor
  b = did setup.node a core

  settles_none : (act : Act) → DueToSettle setup.nodes setup.node b act → ⊥
  settles_none (Settles ticket) due = idle.waits due.waiting due.waits
  settles_none act due = due

  ends_none : (act : Act) → DueToEnd input b act → ⊥
  ends_none act due = by_input input plain due
    where
      by_input : (input : Input) → IsPlain input → DueToEnd input b act → ⊥
      by_input (Delivery packet) is due = due
      by_input (Crash packet after) is due = due
      by_input (Refusal status) is due = due
      by_input (Grant other) is due = due
      by_input (Response other outcome) is due = due
      by_input (Restart lost) is due = due
      by_input input is due = absurd is

  asks_none : (act : Act) → DueToAsk setup.nodes setup.node a b input act → ⊥
  asks_none act due = by_input input plain act due
    where
      by_input : (input : Input) → IsPlain input → (act : Act) → DueToAsk setup.nodes setup.node a b input act → ⊥
      by_input (Delivery packet) is (Asks id ticket) due = due
      by_input (Delivery packet) is act due = due
      by_input (Crash packet after) is (Asks id ticket) due = due
      by_input (Crash packet after) is act due = due
      by_input (Refusal status) is (Asks id ticket) due = due
      by_input (Refusal status) is act due = due
      by_input (Grant other) is (Asks id ticket) due = due
      by_input (Grant other) is act due = due
      by_input (Response other outcome) is (Asks id ticket) due = due
      by_input (Response other outcome) is act due = due
      by_input (Restart lost) is (Asks id ticket) due = due
      by_input (Restart lost) is act due = due
      by_input (Arrival request) is act due = absurd is
      by_input (Tick moment reach) is act due = absurd is

  abandons_none : (act : Act) → DueToAbandon setup.nodes setup.node b (saved records core) input act → ⊥
  abandons_none act due = by_input input plain due
    where
      by_input : (input : Input) → IsPlain input → DueToAbandon setup.nodes setup.node b (saved records core) input act → ⊥
      by_input (Delivery packet) is due = due
      by_input (Crash packet after) is due = due
      by_input (Refusal status) is due = due
      by_input (Grant other) is due = due
      by_input (Response other outcome) is due = due
      by_input (Restart lost) is due = due
      by_input input is due = absurd is

  proposes_none : (act : Act) → DueToPropose setup.nodes setup.node a b act → ⊥
  proposes_none (Proposes slot vote) due = idle.runs due.0.running.round.newer due.0.running.round.older _ due.0.running.round.split
  proposes_none act due = due

  replies_none : (act : Act) → DueToReply setup.nodes setup.node b act → ⊥
  replies_none (Replies ticket id answer) due = idle.waits due.asked.waiting due.asked.waits
  replies_none act due = due

  -- no round is started but by an outcome
  pub cause_none : ((id place : ℕ) (chain : List Decree) → CausesClose setup.nodes setup.node b input id place chain → ⊥) →
      ((id place : ℕ) (chain : List Decree) → CausesTold setup.nodes setup.node a b id place chain → ⊥) → (act : Act) →
      DueToPrepare setup.nodes setup.node a b (saved records core) input act →
      ⊥
  cause_none no_close no_told (Prepares slot ballot chain) due = by_input input plain due.0 no_close
    where
      followed : (packet : Packet) → CausesFollow setup.nodes setup.node a b (Delivery packet) slot.id slot.place chain → ⊥
      followed (Tell sender name told) follow = idle.waits follow.1.waiting follow.1.waits
      followed (Prepare sender other at) follow = follow
      followed (Promise sender other at report) follow = follow
      followed (Propose sender other vote) follow = follow
      followed (Voted sender other vote) follow = follow
      followed (Refused sender other at promised) follow = follow
      followed (Ask sender other name) follow = follow

      no_follow : (input : Input) → CausesFollow setup.nodes setup.node a b input slot.id slot.place chain → ⊥
      no_follow (Delivery packet) follow = followed packet follow
      no_follow (Crash packet after) follow = follow
      no_follow (Arrival request) follow = follow
      no_follow (Refusal status) follow = follow
      no_follow (Tick moment reach) follow = follow
      no_follow (Grant other) follow = follow
      no_follow (Response other outcome) follow = follow
      no_follow (Restart lost) follow = follow

      by_input : (input : Input) → IsPlain input →
          IsStarted setup.nodes setup.node a b (saved records core) input slot.id slot.place chain →
          ((id place : ℕ) (chain : List Decree) → CausesClose setup.nodes setup.node b input id place chain → ⊥) →
          ⊥
      by_input (Delivery packet) is (inl take) none = take
      by_input (Delivery packet) is (inr (inl close)) none = none slot.id slot.place chain close
      by_input (Delivery packet) is (inr (inr (inl follow))) none = no_follow (Delivery packet) follow
      by_input (Delivery packet) is (inr (inr (inr (inl delete)))) none = idle.waits delete.deletes.cancelled.waiting delete.deletes.cancelled.waits
      by_input (Delivery packet) is (inr (inr (inr (inr told)))) none = no_told slot.id slot.place chain told
      by_input (Crash packet after) is (inl take) none = take
      by_input (Crash packet after) is (inr (inl close)) none = none slot.id slot.place chain close
      by_input (Crash packet after) is (inr (inr (inl follow))) none = no_follow (Crash packet after) follow
      by_input (Crash packet after) is (inr (inr (inr (inl delete)))) none = idle.waits delete.deletes.cancelled.waiting delete.deletes.cancelled.waits
      by_input (Crash packet after) is (inr (inr (inr (inr told)))) none = no_told slot.id slot.place chain told
      by_input (Refusal status) is (inl take) none = take
      by_input (Refusal status) is (inr (inl close)) none = none slot.id slot.place chain close
      by_input (Refusal status) is (inr (inr (inl follow))) none = no_follow (Refusal status) follow
      by_input (Refusal status) is (inr (inr (inr (inl delete)))) none = idle.waits delete.deletes.cancelled.waiting delete.deletes.cancelled.waits
      by_input (Refusal status) is (inr (inr (inr (inr told)))) none = no_told slot.id slot.place chain told
      by_input (Grant other) is (inl take) none = take
      by_input (Grant other) is (inr (inl close)) none = none slot.id slot.place chain close
      by_input (Grant other) is (inr (inr (inl follow))) none = no_follow (Grant other) follow
      by_input (Grant other) is (inr (inr (inr (inl delete)))) none = idle.waits delete.deletes.cancelled.waiting delete.deletes.cancelled.waits
      by_input (Grant other) is (inr (inr (inr (inr told)))) none = no_told slot.id slot.place chain told
      by_input (Response other outcome) is (inl take) none = take
      by_input (Response other outcome) is (inr (inl close)) none = none slot.id slot.place chain close
      by_input (Response other outcome) is (inr (inr (inl follow))) none = no_follow (Response other outcome) follow
      by_input (Response other outcome) is (inr (inr (inr (inl delete)))) none = idle.waits delete.deletes.cancelled.waiting delete.deletes.cancelled.waits
      by_input (Response other outcome) is (inr (inr (inr (inr told)))) none = no_told slot.id slot.place chain told
      by_input (Restart lost) is (inl take) none = take
      by_input (Restart lost) is (inr (inl close)) none = none slot.id slot.place chain close
      by_input (Restart lost) is (inr (inr (inl follow))) none = no_follow (Restart lost) follow
      by_input (Restart lost) is (inr (inr (inr (inl delete)))) none = idle.waits delete.deletes.cancelled.waiting delete.deletes.cancelled.waits
      by_input (Restart lost) is (inr (inr (inr (inr told)))) none = no_told slot.id slot.place chain told
      by_input (Arrival request) is due none = absurd is
      by_input (Tick moment reach) is due none = absurd is
  cause_none no_close no_told act due = due

  pub idle_exact : IsCore setup a records input core → ((act : Act) → DueToReport setup.nodes setup.node a b act → ⊥) →
      (prepares : List Act) → AreDueOnce (DueToPrepare setup.nodes setup.node a b (saved records core) input) prepares → (acts : List Act) →
      acts ≡ (prepares ++ [] ++ [] ++ [] ++ []) ++ core →
      IsExact setup a records input acts
  idle_exact core_is unreported prepares prepared acts is = record {
    core = core;
    settles = [];
    late = [];
    asks = [];
    abandons = [];
    prepares = prepares;
    proposes = [];
    replies = [];
    reports = [];
    acts_are = is;
    core_is = core_is;
    settled = none_due (DueToSettle setup.nodes setup.node b) settles_none;
    ended = none_due (DueToEnd input b) ends_none;
    asked = none_due (DueToAsk setup.nodes setup.node a b input) asks_none;
    abandoned = none_due (DueToAbandon setup.nodes setup.node b (saved records core) input) abandons_none;
    prepared = prepared;
    proposed = none_due_once (DueToPropose setup.nodes setup.node a b) proposes_none;
    replied = none_due (DueToReply setup.nodes setup.node b) replies_none;
    reported = none_due (DueToReport setup.nodes setup.node a b) unreported;
  }

-- ---- an acceptor: nothing is known, and nothing is sent

promise_idle : IsIdle (record (opened 1 1) { received = Prepare 2 (slot_at first_id 0) first_ballot ∷ [] })
promise_idle = record { waits = λ waiting none. none; runs = never_empty }

no_vote_yet : NoVotes (Prepare 2 (slot_at first_id 0) first_ballot ∷ [])
no_vote_yet acceptor slot vote (inl same) = cc
no_vote_yet acceptor slot vote (inr none) = none

no_report_yet : (before : Actor) (act : Act) →
    DueToReport 3 1 before (record (opened 1 1) { received = Prepare 2 (slot_at first_id 0) first_ballot ∷ [] }) act →
    ⊥
no_report_yet before (Reports id chain) due = none_known 3 _ no_vote_yet id chain due.known
no_report_yet before act due = due

-- it promises
pub promises : IsStepAlone among_three (opened_new 1) (Delivery (Prepare 2 (slot_at first_id 0) first_ballot))
    (Promises (slot_at first_id 0) first_ballot true ∷ Receives (Prepare 2 (slot_at first_id 0) first_ballot) ∷ [])
promises = record {
  run = (
    record { least = omega arith; most = omega arith; up = refl; needs = record { sender = 2; prepared = inl refl; may = omega arith } },
    (record { least = omega arith; most = omega arith; up = refl; needs = tt }, tt),
  );
  exact = idle_exact among_three (opened 1 1) no_records (Delivery (Prepare 2 (slot_at first_id 0) first_ballot)) _ tt promise_idle
      (inl (
        record { least = omega arith; most = omega arith },
        record
            { answer = Promises (slot_at first_id 0) first_ballot true ∷ []; answered = inl (omega arith, refl); acts_are = refl },
      ))
      (no_report_yet (opened 1 1)) []
      (none_due_once _ (cause_none among_three (opened 1 1) no_records (Delivery (Prepare 2 (slot_at first_id 0) first_ballot))
      (Promises (slot_at first_id 0) first_ballot true ∷ Receives (Prepare 2 (slot_at first_id 0) first_ballot) ∷ []) tt promise_idle
      (λ id place chain none. none) (λ id place chain told. none_known 3 _ no_vote_yet _ _ told.due.further.known))) _ refl;
}

-- and where it stops after the save, nothing is answered
stop_idle : IsIdle (record (opened 1 1) { up = false; received = Prepare 2 (slot_at first_id 0) first_ballot ∷ [] })
stop_idle = record { waits = λ waiting none. none; runs = never_empty }

no_report_stopped : (before : Actor) (act : Act) →
    DueToReport 3 1 before (record (opened 1 1) { up = false; received = Prepare 2 (slot_at first_id 0) first_ballot ∷ [] }) act →
    ⊥
no_report_stopped before (Reports id chain) due = none_known 3 _ no_vote_yet id chain due.known
no_report_stopped before act due = due

abbrev stopping : List Act
stopping = Stops ∷ Promises (slot_at first_id 0) first_ballot false ∷ Receives (Prepare 2 (slot_at first_id 0) first_ballot) ∷ []

pub stops : IsStepAlone among_three (opened_new 1) (Crash (Prepare 2 (slot_at first_id 0) first_ballot) true)
    (Stops ∷ Promises (slot_at first_id 0) first_ballot false ∷ Receives (Prepare 2 (slot_at first_id 0) first_ballot) ∷ [])
stops = record {
  run = (
    record { least = omega arith; most = omega arith; up = refl; needs = tt },
    (
      record { least = omega arith; most = omega arith; up = refl; needs = record { sender = 2; prepared = inl refl; may = omega arith } },
      (record { least = omega arith; most = omega arith; up = refl; needs = tt }, tt),
    ),
  );
  exact = idle_exact among_three (opened 1 1) no_records (Crash (Prepare 2 (slot_at first_id 0) first_ballot) true) stopping tt stop_idle
      (record {
        before = Promises (slot_at first_id 0) first_ballot false ∷ Receives (Prepare 2 (slot_at first_id 0) first_ballot) ∷ [];
        handled = inl (record { least = omega arith; most = omega arith }, inl (omega arith, refl));
        acts_are = refl;
      })
      (no_report_stopped (opened 1 1)) []
      (none_due_once _ (cause_none among_three (opened 1 1) no_records
      (Crash (Prepare 2 (slot_at first_id 0) first_ballot) true) stopping tt stop_idle (λ id place chain none. none)
      (λ id place chain told. none_known 3 _ no_vote_yet _ _ told.due.further.known))) stopping refl;
}

-- ---- a node that has received nothing

new_idle : (incarnation serial : ℕ) → IsIdle (opened incarnation serial)
new_idle incarnation serial = record { waits = λ waiting none. none; runs = never_empty }

pub no_vote_at_all : NoVotes []
no_vote_at_all acceptor slot vote none = none

no_report_new : (before : Actor) (incarnation serial : ℕ) (act : Act) → DueToReport 3 1 before (opened incarnation serial) act → ⊥
no_report_new before incarnation serial (Reports id chain) due = none_known 3 _ no_vote_at_all id chain due.known
no_report_new before incarnation serial act due = due

-- it starts anew after two starts that failed
pub restarts : (s : Node) → s.actor.incarnation + 2 < 9999 → IsStepAlone among_three s (Restart 2) (Restarts 2 1 ∷ [])
restarts s below = record {
  run = (record { least = omega arith; most = omega arith; up = tt; needs = below }, tt);
  exact = idle_exact among_three s.actor s.records (Restart 2) (Restarts 2 1 ∷ []) tt (new_idle (suc (s.actor.incarnation + 2)) 1) refl
      (no_report_new s.actor (suc (s.actor.incarnation + 2)) 1) []
      (none_due_once _ (cause_none among_three s.actor s.records (Restart 2) (Restarts 2 1 ∷ []) tt
      (new_idle (suc (s.actor.incarnation + 2)) 1) (λ id place chain none. none)
      (λ id place chain told. none_known 3 _ no_vote_at_all _ _ told.due.further.known))) (Restarts 2 1 ∷ []) refl;
}

-- a submit_sm finds no serial, and is answered at once
pub refuses : IsStepAlone among_three (node_of_actor used_up) (Refusal queue_full) []
refuses = record {
  run = tt;
  exact = idle_exact among_three used_up no_records (Refusal queue_full) [] tt (record { waits = λ waiting none. none; runs = never_empty })
      (record { throttled = λ is. absurd (omega (arith, is)); queue_full = λ is. omega arith }, refl) unreported []
      (none_due_once _ (cause_none among_three used_up no_records (Refusal queue_full) [] tt
      (record { waits = λ waiting none. none; runs = never_empty }) (λ id place chain none. none)
      (nothing_new 3 1 used_up used_up refl))) [] refl;
}
  where
    unreported : (act : Act) → DueToReport 3 1 used_up used_up act → ⊥
    unreported (Reports id chain) due = none_known 3 _ no_vote_at_all id chain due.known
    unreported act due = due

-- ---- an attempt is granted, and its outcome comes

module _ (message : Submission) where
  abbrev attempting : List Slot → List (Slot × Outcome) → Actor
  attempting granted closed = knowing 1 opening_clock (attempted_chain message) granted closed

  attempt_idle : (granted : List Slot) (closed : List (Slot × Outcome)) → IsIdle (attempting granted closed)
  attempt_idle granted closed = record { waits = λ waiting none. none; runs = never_empty }

  -- what is known was known before, and has no final state
  no_report_of : (before after : Actor) → before.received ≡ after.received → (act : Act) → DueToReport 1 1 before after act → ⊥
  no_report_of before after same (Reports id chain) due = due.new (subst (λ (ps : List Packet). Knows 1 ps id chain) (sym same) due.known)
  no_report_of before after same act due = due

  pub grants : IsStepAlone first_setup (node_of_actor (attempting [] [])) (Grant (first_attempt message)) (Grants (first_attempt message) ∷ [])
  grants = record {
    run = (
      record {
        least = omega arith;
        most = omega arith;
        up = refl;
        needs = record {
          attempting = record {
            newest = decreed (Attempt 1);
            older = taken_chain message;
            number = 1;
            known = known_here
                (attempted_chain message);
            place = refl;
            attempt = refl;
            author = refl;
          };
          granted = λ none. none;
          closed = λ outcome none. none;
        };
      },
      tt,
    );
    exact = idle_exact first_setup (attempting [] []) no_records (Grant (first_attempt message)) (Grants (first_attempt message) ∷ []) tt
        (attempt_idle (first_attempt message ∷ []) []) refl (no_report_of (attempting [] []) (attempting (first_attempt message ∷ []) []) refl) []
        (none_due_once _ (cause_none first_setup (attempting [] []) no_records (Grant (first_attempt message))
        (Grants (first_attempt message) ∷ []) tt (attempt_idle (first_attempt message ∷ []) []) (λ id place chain none. none)
        (nothing_new 1 1 (attempting [] []) (attempting (first_attempt message ∷ []) []) refl)))
        (Grants (first_attempt message) ∷ []) refl;
  }

  -- the outcome comes, and its decree is to be agreed on
  abbrev concluded : Actor
  concluded = attempting (first_attempt message ∷ []) ((first_attempt message, Concluded Delivered 0) ∷ [])

  seen_none : (slot : Slot) (round : ℕ) → HasSeen 1 concluded no_records slot round → round ≡ 0
  seen_none slot round (inl own) = own
  seen_none slot round (inr (inl refused)) = elim refused.heard [ inl same ↦ cc | inr none ↦ absurd none ]
  seen_none slot round (inr (inr prepared)) = absurd prepared.sent

  prepares_so : MayPrepare 1 1 concluded no_records (slot_of first_id (delivered_chain message)) first_ballot
  prepares_so = record {
    none = λ other ballot same running. never_empty running.round.newer running.round.older _ running.round.split;
    next = record {
      highest = 0;
      seen = inl refl;
      most = λ round seen. let none = seen_none (slot_of first_id (delivered_chain message)) round seen in omega (arith, none);
      ballot_is = refl;
      round = record { least = omega arith; most = omega arith };
    };
  }

  abbrev delivering : List Act
  delivering = Prepares (slot_of first_id (delivered_chain message)) first_ballot (delivered_chain message) ∷ []

  abbrev Due : Act → Type 0
  Due act = DueToPrepare 1 1 (attempting (first_attempt message ∷ []) []) concluded no_records (Response (first_attempt message) (Concluded Delivered 0)) act

  one_round : AreDueOnce Due delivering
  one_round = record { only = only; all = all; order = tt }
    where
      only : (act : Act) → In act delivering → Due act
      only act (inl same) = subst Due (sym same) (
        inr (inl (record {
          about = refl;
          further = record {
            newest = decreed (Attempt 1);
            older = taken_chain message;
            taken = message;
            known = known_here
                (attempted_chain message);
            behind = refl;
            message = refl;
            chain_is = refl;
          };
          newest = refl;
        })),
        prepares_so,
      )
      only act (inr none) = absurd none

      all : (act : Act) → Due act → In (key_of act) (first_id ∷ [])
      all (Prepares slot ballot chain) due = inl (by_cause due.0)
        where
          by_cause : Causes 1 1 (attempting (first_attempt message ∷ []) []) concluded
              (Response (first_attempt message) (Concluded Delivered 0)) slot.id slot.place chain →
              slot.id ≡ first_id
          by_cause (inl take) = absurd take
          by_cause (inr (inl close)) = sym close.about
          by_cause (inr (inr (inl follow))) = absurd follow
          by_cause (inr (inr (inr (inl delete)))) = absurd delete.deletes.cancelled.waits
          by_cause (inr (inr (inr (inr told)))) = absurd (nothing_new 1 1 (attempting (first_attempt message ∷ []) []) concluded refl slot.id slot.place chain told)
      all act due = absurd due

  pub concludes : IsStepAlone first_setup (node_of_actor (attempting (first_attempt message ∷ []) [])) (Response (first_attempt message) (Concluded Delivered 0)) (Prepares (slot_of first_id (delivered_chain message)) first_ballot (delivered_chain message) ∷ Concludes (first_attempt message) (Concluded Delivered 0) ∷ [])
  concludes = record {
    run = (
      record { least = omega arith; most = omega arith; up = refl; needs = (refl, refl) },
      (record { least = omega arith; most = omega arith; up = refl; needs = record { granted = inl refl; closed = λ outcome none. none; possible = refl } }, tt),
    );
    exact = idle_exact first_setup (attempting (first_attempt message ∷ []) []) no_records (Response (first_attempt message) (Concluded Delivered 0)) (Concludes (first_attempt message) (Concluded Delivered 0) ∷ []) tt (attempt_idle (first_attempt message ∷ []) ((first_attempt message, Concluded Delivered 0) ∷ [])) refl (no_report_of (attempting (first_attempt message ∷ []) []) concluded refl) delivering one_round _ refl;
  }
