-- A node that is told of a vote starts a round for its chain, and proposes it.
use Rattle.std.proofs.Common.{◌≡◌, ◌⊎◌, ℕ, zero, suc, ◌*◌, ◌<◌, true, false, List, [], ◌∷◌, ◌++◌, Option, Some, None, refl, sym, ◌∙◌, ap}
use Rattle.std.proofs.Common.{subst, inl, inr, arith}
use Rattle.std.specs.Prelude.{◌==◌, not}
use Rattle.std.proofs.lemmas.Bool.{eq-eqb, true≢false}
use Rattle.mc_model.specs.message.Decree.{Decree}
use Rattle.mc_model.specs.synod.Lists.{In}
use Rattle.mc_model.specs.synod.Majority.{Majority, HoldsOf, count}
use Rattle.mc_model.specs.synod.OneSlot.{Vote, vote_at}
use Rattle.mc_model.specs.synod.Packet.{Slot, slot_at, top_at, Packet, Prepare, Promise, Voted, Tell, TopVote}
use Rattle.mc_model.specs.node.Actor.{Actor, Offer, Request, Query, Waiting, opened, opening_clock, id_in, name_of}
use Rattle.mc_model.specs.node.Knowledge.{Knows}
use Rattle.mc_model.specs.node.Settling.{HasTold, IsSettled}
use Rattle.mc_model.specs.node.Replies.{Answer, Shown, NotOwner, Unknown, FitsRequest}
use Rattle.mc_model.specs.node.Act.{Act, Receives, Settles, Replies, Asks, Prepares, Proposes, Reports, Begins}
use Rattle.mc_model.specs.node.Rounds.{HasSeen, MayPrepare, IsRunning, IsPromised}
use Rattle.mc_model.specs.node.Rules.{ToldBy}
use Rattle.mc_model.specs.node.Input.{Delivery, Arrival}
use Rattle.mc_model.specs.node.Causes.{Causes, CausesFollow, IsCompleted, ShowsMore}
use Rattle.mc_model.specs.node.Concerns.{Concerns}
use Rattle.mc_model.specs.node.Due.{AreDue, AreDueOnce, key_of}
use Rattle.mc_model.specs.node.Core.{IsCore}
use Rattle.mc_model.specs.node.Phases.{IsCancelRequest, DueToSettle, DueToEnd, DueToAsk, DueToAbandon, DueToPrepare, DueToPropose, DueToReply, DueToReport}
use Rattle.mc_model.specs.node.Step.{IsExact}
use Rattle.mc_model.specs.node.Alone.{AreStepsAlone, opened_new}
use Rattle.mc_laws.specs.Stories.{first_ballot}
use Rattle.mc_laws.specs.NodeStories.{no_records, among_three}
use Rattle.mc_laws.specs.QueryStories.{second_id, second_slot, question, told_by_3, following}
use Rattle.mc_parts.proofs.Majorities.{both}
use Rattle.mc_parts.proofs.Membership.{never_empty}
use Rattle.mc_laws.proofs.story.FirstStep.{none_due, none_due_once}

-- nothing more behind a list
ends_four : (xs : List Act) → xs ≡ (xs ++ [] ++ [] ++ [] ++ [])
ends_four [] = refl
ends_four (x ∷ xs) = ap (λ (ys : List Act). x ∷ ys) (ends_four xs)

-- ---- nothing is known without votes

abbrev pub NoVotes : List Packet → Type 0
NoVotes received = (acceptor : ℕ) (slot : Slot) (vote : Vote) → In (Voted acceptor slot vote) received → ⊥

pub none_known : (nodes : ℕ) (received : List Packet) → NoVotes received → (id : ℕ) (chain : List Decree) → Knows nodes received id chain → ⊥
none_known nodes received none id chain known =
    let voter = both nodes _ _ known.learned known.learned in none voter.node _ _ voter.one

-- one of three is no majority
pub others_of_three : (k : ℕ) → ((k ≡ 2) ⊎ (k ≡ 3)) ⊎ (k ≡ 1) → Majority 3 (λ node. node ≡ k → ⊥)
others_of_three k is = record { test = λ node. not (node == k); most = most k is; each = λ node least most passes same. differs node k passes same }
  where
    most : (k : ℕ) → ((k ≡ 2) ⊎ (k ≡ 3)) ⊎ (k ≡ 1) → 3 < 2 * count (λ node. not (node == k)) 3
    most k (inl (inl is)) = subst (λ (n : ℕ). 3 < 2 * count (λ node. not (node == n)) 3) (sym is) (omega arith)
    most k (inl (inr is)) = subst (λ (n : ℕ). 3 < 2 * count (λ node. not (node == n)) 3) (sym is) (omega arith)
    most k (inr is) = subst (λ (n : ℕ). 3 < 2 * count (λ node. not (node == n)) 3) (sym is) (omega arith)

    differs : (node k : ℕ) → not (node == k) ≡ true → node ≡ k → ⊥
    differs node k passes same =
        let equal : (node == k) ≡ true = eq-eqb node k same in
        let unequal : not (node == k) ≡ false = ap not equal in
        true≢false (sym passes ∙ unequal)

one_is_few : (k : ℕ) → ((k ≡ 2) ⊎ (k ≡ 3)) ⊎ (k ≡ 1) → (P : ℕ → Type 0) → ((node : ℕ) → P node → node ≡ k) → Majority 3 P → ⊥
one_is_few k is P only majority = let b = both 3 P (λ node. node ≡ k → ⊥) majority (others_of_three k is) in b.other (only b.node b.one)

-- ---- a node at which one query_sm waits

module _ (account source : List ℕ) where
  abbrev asked_for : Waiting
  asked_for = record { ticket = 1; since = opening_clock; request = Query second_id account source; settled = false }

  abbrev asking_at : List Packet → List Packet → List Offer → Actor
  asking_at received sent offers = record {
    up = true;
    incarnation = 1;
    clock = opening_clock;
    serial = 1;
    ticket = 2;
    received = received;
    waiting = asked_for ∷ [];
    sent = sent;
    before_tick = 0;
    offers = offers;
    granted = [];
    closed = [];
  }

  only_waiting : (P : Waiting → Type 0) → P asked_for → (waiting : Waiting) → In waiting (asked_for ∷ []) → P waiting
  only_waiting P holds waiting (inl same) = subst P (sym same) holds
  only_waiting P holds waiting (inr none) = absurd none

  settles_none : (received sent : List Packet) (offers : List Offer) (act : Act) → DueToSettle 3 1 (asking_at received sent offers) act → ⊥
  settles_none received sent offers (Settles ticket) due = only_waiting (λ w. IsCancelRequest w.request → ⊥) (λ none. none) due.waiting due.waits due.cancel
  settles_none received sent offers act due = due

  -- it is not answered while nothing is known, unless a majority has told of nothing
  no_answer : (received sent : List Packet) (offers : List Offer) → NoVotes received → (IsSettled 3 received question None → ⊥) →
      (waiting : Waiting) → waiting ≡ asked_for → (answer : Answer) →
      FitsRequest 3 1 (asking_at received sent offers) waiting (Query second_id account source) answer →
      ⊥
  no_answer received sent offers none unsettled waiting is (Shown chain) fits = none_known 3 received none _ chain fits.known
  no_answer received sent offers none unsettled waiting is NotOwner fits = none_known 3 received none _ fits.chain fits.known
  no_answer received sent offers none unsettled waiting is Unknown fits = unsettled
      (subst (λ (w : Waiting). IsSettled 3 received (name_of 1 (asking_at received sent offers) w) None) is fits.settled)
  no_answer received sent offers none unsettled waiting is answer fits = fits

  replies_none : (received sent : List Packet) (offers : List Offer) → NoVotes received → (IsSettled 3 received question None → ⊥) →
      (act : Act) → DueToReply 3 1 (asking_at received sent offers) act →
      ⊥
  replies_none received sent offers none unsettled (Replies ticket id answer) due =
      let is = only_waiting (λ w. w ≡ asked_for) refl due.asked.waiting due.asked.waits in
      no_answer received sent offers none unsettled due.asked.waiting is answer
      (subst (λ (r : Request). FitsRequest 3 1 (asking_at received sent offers) due.asked.waiting r answer)
      (ap (λ (w : Waiting). w.request) is) due.fits)
  replies_none received sent offers none unsettled act due = due

  reports_none : (before : Actor) (received sent : List Packet) (offers : List Offer) → NoVotes received → (act : Act) →
      DueToReport 3 1 before (asking_at received sent offers) act →
      ⊥
  reports_none before received sent offers none (Reports id chain) due = none_known 3 received none id chain due.known
  reports_none before received sent offers none act due = due

  asks_none : (before a : Actor) (packet : Packet) (act : Act) → DueToAsk 3 1 before a (Delivery packet) act → ⊥
  asks_none before a packet (Asks id ticket) due = due
  asks_none before a packet act due = due

  -- a packet that the acceptor does not answer
  pub heard_exact : (packet : Packet) (received sent : List Packet) (offers : List Offer) →
      IsCore among_three (asking_at received sent offers) no_records (Delivery packet) (Receives packet ∷ []) →
      NoVotes (packet ∷ received) → (IsSettled 3 (packet ∷ received) question None → ⊥) → (prepares proposes : List Act) →
      AreDueOnce (DueToPrepare 3 1 (asking_at received sent offers) (asking_at (packet ∷ received) sent offers) no_records (Delivery packet)) prepares →
      AreDueOnce (DueToPropose 3 1 (asking_at received sent offers) (asking_at (packet ∷ received) sent offers)) proposes →
      (acts : List Act) → acts ≡ (proposes ++ prepares) ++ Receives packet ∷ [] →
      IsExact among_three (asking_at received sent offers) no_records (Delivery packet) acts
  heard_exact packet received sent offers core none unsettled prepares proposes prepared proposed acts is = record {
    core = Receives packet ∷ [];
    settles = [];
    late = [];
    asks = [];
    abandons = [];
    prepares = prepares;
    proposes = proposes;
    replies = [];
    reports = [];
    acts_are = is ∙ ap (λ (xs : List Act). xs ++ Receives packet ∷ []) (ends_four (proposes ++ prepares));
    core_is = core;
    settled = none_due (DueToSettle 3 1 (asking_at (packet ∷ received) sent offers)) (settles_none (packet ∷ received) sent offers);
    ended = none_due (DueToEnd (Delivery packet) (asking_at (packet ∷ received) sent offers)) (λ act due. due);
    asked = none_due (DueToAsk 3 1 (asking_at received sent offers) (asking_at (packet ∷ received) sent offers) (Delivery packet))
        (asks_none (asking_at received sent offers) (asking_at (packet ∷ received) sent offers) packet);
    abandoned = none_due (DueToAbandon 3 1 (asking_at (packet ∷ received) sent offers) no_records (Delivery packet)) (λ act due. due);
    prepared = prepared;
    proposed = proposed;
    replied = none_due (DueToReply 3 1 (asking_at (packet ∷ received) sent offers)) (replies_none (packet ∷ received) sent offers none unsettled);
    reported = none_due (DueToReport 3 1 (asking_at received sent offers) (asking_at (packet ∷ received) sent offers))
        (reports_none (asking_at received sent offers) (packet ∷ received) sent offers none);
  }

-- ---- the packets that come

from_2 : (node : ℕ) (told : Option TopVote) → In (Tell node question told) (Tell 2 question None ∷ []) → node ≡ 2
from_2 node told (inl same) = cc
from_2 node told (inr none) = absurd none

abbrev told : Vote → List Packet
told vote = told_by_3 vote ∷ Tell 2 question None ∷ []

abbrev promised : Vote → List Packet
promised vote = Promise 2 second_slot first_ballot None ∷ told vote

abbrev prepared_so : List Packet
prepared_so = Prepare 1 second_slot first_ballot ∷ []

abbrev offered_so : Vote → List Offer
offered_so vote = record { slot = second_slot; ballot = first_ballot; chain = vote.chain } ∷ []

no_votes_2 : NoVotes (Tell 2 question None ∷ [])
no_votes_2 acceptor slot vote (inl same) = cc
no_votes_2 acceptor slot vote (inr none) = none

no_votes_3 : (told_vote : Vote) → NoVotes (told told_vote)
no_votes_3 told_vote acceptor slot vote (inl same) = cc
no_votes_3 told_vote acceptor slot vote (inr others) = no_votes_2 acceptor slot vote others

no_votes_4 : (told_vote : Vote) → NoVotes (promised told_vote)
no_votes_4 told_vote acceptor slot vote (inl same) = cc
no_votes_4 told_vote acceptor slot vote (inr others) = no_votes_3 told_vote acceptor slot vote others

no_votes_5 : (told_vote : Vote) → NoVotes (Promise 3 second_slot first_ballot None ∷ promised told_vote)
no_votes_5 told_vote acceptor slot vote (inl same) = cc
no_votes_5 told_vote acceptor slot vote (inr others) = no_votes_4 told_vote acceptor slot vote others

-- what node 3 told is beyond what is known
unsettled_by_3 : (vote : Vote) (received : List Packet) → In (told_by_3 vote) received → IsSettled 3 received question None → ⊥
unsettled_by_3 vote received is_in settled = settled.reached 3 (Some (top_at second_slot vote)) is_in

pub few_told : (P : ℕ → Type 0) → ((node : ℕ) → P node → node ≡ 2) → Majority 3 P → ⊥
few_told P only = one_is_few 2 (inl (inl refl)) P only

pub two_and_three : (P : ℕ → Type 0) → P 2 → P 3 → Majority 3 P
two_and_three P two three = record { test = λ node. not (node == 1); most = omega arith; each = each }
  where
    each : HoldsOf 3 (λ node. not (node == 1)) P
    each zero least most passes = absurd (omega (arith, least))
    each (suc zero) least most passes = absurd cc
    each (suc (suc zero)) least most passes = two
    each (suc (suc (suc zero))) least most passes = three
    each (suc (suc (suc (suc node)))) least most passes = absurd (omega (arith, most))

-- ---- the steps

module _ (account source : List ℕ) (vote : Vote) where
  abbrev at : List Packet → List Packet → List Offer → Actor
  at received sent offers = asking_at account source received sent offers

  -- nothing but a Tell starts a round here
  no_cause : (before : Actor) (packet : Packet) (received sent : List Packet) (offers : List Offer) → NoVotes received →
      ((id place : ℕ) (chain : List Decree) → CausesFollow 3 1 before (at received sent offers) (Delivery packet) id place chain → ⊥) →
      (act : Act) → DueToPrepare 3 1 before (at received sent offers) no_records (Delivery packet) act →
      ⊥
  no_cause before packet received sent offers none no_follow (Prepares slot ballot chain) due = by_cause due.0
    where
      by_cause : Causes 3 1 before (at received sent offers) (Delivery packet) slot.id slot.place chain → ⊥
      by_cause (inl take) = take
      by_cause (inr (inl close)) = close
      by_cause (inr (inr (inl follow))) = no_follow slot.id slot.place chain follow
      by_cause (inr (inr (inr (inl delete)))) = none_known 3 received none _ _ delete.deletes.further.known
      by_cause (inr (inr (inr (inr told)))) = none_known 3 received none _ _ told.due.further.known
  no_cause before packet received sent offers none no_follow act due = due

  -- the query_sm comes
  asks_one : AreDue (DueToAsk 3 1 (opened 1 1) (at [] [] []) (Arrival (Query second_id account source))) (Asks second_id 1 ∷ [])
  asks_one = record { each = λ act. (there act, back act); order = tt }
    where
      there : (act : Act) → In act (Asks second_id 1 ∷ []) → DueToAsk 3 1 (opened 1 1) (at [] [] []) (Arrival (Query second_id account source)) act
      there act (inl same) = subst (DueToAsk 3 1 (opened 1 1) (at [] [] []) (Arrival (Query second_id account source))) (sym same) (refl, refl)
      there act (inr none) = absurd none

      back : (act : Act) → DueToAsk 3 1 (opened 1 1) (at [] [] []) (Arrival (Query second_id account source)) act → In act (Asks second_id 1 ∷ [])
      back (Asks id ticket) due = inl (λ i. Asks (sym due.0 i) (due.1 i))
      back act due = absurd due

  no_packets : NoVotes []
  no_packets acceptor slot other none = none

  no_arrival_cause : (act : Act) → DueToPrepare 3 1 (opened 1 1) (at [] [] []) no_records (Arrival (Query second_id account source)) act → ⊥
  no_arrival_cause (Prepares slot ballot chain) due = by_cause due.0
    where
      by_cause : Causes 3 1 (opened 1 1) (at [] [] []) (Arrival (Query second_id account source)) slot.id slot.place chain → ⊥
      by_cause (inl take) = take
      by_cause (inr (inl close)) = close
      by_cause (inr (inr (inl follow))) = follow
      by_cause (inr (inr (inr (inl delete)))) = none_known 3 [] no_packets _ _ delete.deletes.further.known
      by_cause (inr (inr (inr (inr told)))) = none_known 3 [] no_packets _ _ told.due.further.known
  no_arrival_cause act due = due

  proposes_none : (before : Actor) (received : List Packet) → (act : Act) → DueToPropose 3 1 before (at received [] []) act → ⊥
  proposes_none before received (Proposes slot other) due = never_empty due.0.running.round.newer due.0.running.round.older _ due.0.running.round.split
  proposes_none before received act due = due

  nobody_told : IsSettled 3 [] question None → ⊥
  nobody_told settled = (both 3 _ _ settled.majority settled.majority).one.heard

  arrival_exact : IsExact among_three (opened 1 1) no_records (Arrival (Query second_id account source))
      (Asks second_id 1 ∷ Begins 1 (Query second_id account source) ∷ [])
  arrival_exact = record {
    core = Begins 1 (Query second_id account source) ∷ [];
    settles = [];
    late = [];
    asks = Asks second_id 1 ∷ [];
    abandons = [];
    prepares = [];
    proposes = [];
    replies = [];
    reports = [];
    acts_are = refl;
    core_is = refl;
    settled = none_due (DueToSettle 3 1 (at [] [] [])) (settles_none account source [] [] []);
    ended = none_due (DueToEnd (Arrival (Query second_id account source)) (at [] [] [])) (λ act due. due);
    asked = asks_one;
    abandoned = none_due (DueToAbandon 3 1 (at [] [] []) no_records (Arrival (Query second_id account source))) (λ act due. due);
    prepared = none_due_once (DueToPrepare 3 1 (opened 1 1) (at [] [] []) no_records (Arrival (Query second_id account source))) no_arrival_cause;
    proposed = none_due_once (DueToPropose 3 1 (opened 1 1) (at [] [] [])) (proposes_none (opened 1 1) []);
    replied = none_due (DueToReply 3 1 (at [] [] [])) (replies_none account source [] [] [] no_packets nobody_told);
    reported = none_due (DueToReport 3 1 (opened 1 1) (at [] [] [])) (reports_none account source (opened 1 1) [] [] [] no_packets);
  }

  -- node 2 has nothing to tell
  few_2 : (settled : IsSettled 3 (Tell 2 question None ∷ []) question None) → ⊥
  few_2 settled = few_told (HasTold (Tell 2 question None ∷ []) question) (λ node heard. from_2 node heard.told heard.heard) settled.majority

  no_follow_2 : (id place : ℕ) (chain : List Decree) →
      CausesFollow 3 1 (at [] [] []) (at (Tell 2 question None ∷ []) [] []) (Delivery (Tell 2 question None)) id place chain →
      ⊥
  no_follow_2 id place chain follow = few_told (HasTold (Tell 2 question None ∷ []) question)
      (λ node heard. from_2 node heard.told heard.heard) follow.1.majority

  told_2_exact : IsExact among_three (at [] [] []) no_records (Delivery (Tell 2 question None)) (Receives (Tell 2 question None) ∷ [])
  told_2_exact = heard_exact account source (Tell 2 question None) [] [] []
      (inl ((record { least = omega arith; most = omega arith }, λ mine now. record { given = omega arith; about = λ waiting waits is. tt }), record { answer = []; answered = refl; acts_are = refl }))
      no_votes_2 few_2 [] []
      (none_due_once _ (no_cause (at [] [] []) (Tell 2 question None) (Tell 2 question None ∷ []) [] [] no_votes_2 no_follow_2))
      (none_due_once (DueToPropose 3 1 (at [] [] []) (at (Tell 2 question None ∷ []) [] [])) (proposes_none (at [] [] []) (Tell 2 question None ∷ [])))
      (Receives (Tell 2 question None) ∷ []) refl

  -- node 3 tells of a vote
  only_told : (id place : ℕ) (other : Vote) → ToldBy (at (told vote) [] []) question id place other → (id ≡ second_id) × (place ≡ 0) × (other ≡ vote)
  only_told id place other t = elim t.heard [
    | inl same ↦ let tops : ◌≡◌ {A = TopVote} (top_at (slot_at id place) other) (top_at second_slot vote) = cc in
        (ap (λ (x : TopVote). x.id) tops, ap (λ (x : TopVote). x.place) tops, ap (λ (x : TopVote). x.vote) tops)
    | inr earlier ↦ elim earlier [ inl same ↦ cc | inr none ↦ absurd none ]
  ]

  shows : ShowsMore 3 1 (at (told vote) [] []) question second_id 0 vote.chain
  shows = record {
    waiting = asked_for account source;
    vote = vote;
    waits = inl refl;
    named = refl;
    about = refl;
    majority = two_and_three (HasTold (told vote) question) (record { told = None; heard = inr (inl refl) })
        (record { told = Some (top_at second_slot vote); heard = inl refl });
    highest = record {
      shown = record { teller = 3; heard = inl refl };
      place_most = λ place held shown. let p = (only_told second_id place held shown).1 in omega (arith, p);
      ballot_most = λ held shown. let same = (only_told second_id 0 held shown).2 in let ballots : held.ballot ≡ vote.ballot = ap
          (λ (v : Vote). v.ballot) same in omega (arith, ballots);
    };
    ahead = λ chain known. absurd (none_known 3 (told vote) (no_votes_3 vote) second_id chain known);
    chain_is = refl;
  }

  concerned_3 : Concerns 3 1 (at (Tell 2 question None ∷ []) [] []) (told_by_3 vote)
  concerned_3 = (
    record { least = omega arith; most = omega arith },
    λ mine now. record {
      given = omega arith;
      about = λ waiting waits is. sym (only_waiting account source (λ w. id_in w.request ≡ second_id) refl waiting waits);
    },
  )

  seen_none : (slot : Slot) (round : ℕ) → HasSeen 1 (at (told vote) [] []) no_records slot round → round ≡ 0
  seen_none slot round (inl own) = own
  seen_none slot round (inr (inl refused)) = elim refused.heard [ inl same ↦ cc | inr earlier ↦ elim earlier [ inl same ↦ cc | inr none ↦ absurd none ] ]
  seen_none slot round (inr (inr prepared)) = absurd prepared.sent

  prepares_so : MayPrepare 3 1 (at (told vote) [] []) no_records second_slot first_ballot
  prepares_so = record {
    none = λ other ballot same running. never_empty running.round.newer running.round.older _ running.round.split;
    next = record {
      highest = 0;
      seen = inl refl;
      most = λ round seen. let none = seen_none second_slot round seen in omega (arith, none);
      ballot_is = refl;
      round = record { least = omega arith; most = omega arith };
    };
  }

  one_round : AreDueOnce (DueToPrepare 3 1 (at (Tell 2 question None ∷ []) [] []) (at (told vote) [] []) no_records
      (Delivery (told_by_3 vote))) (Prepares second_slot first_ballot vote.chain ∷ [])
  one_round = record { only = only; all = all; order = tt }
    where
      only : (act : Act) → In act (Prepares second_slot first_ballot vote.chain ∷ []) →
          DueToPrepare 3 1 (at (Tell 2 question None ∷ []) [] []) (at (told vote) [] []) no_records (Delivery (told_by_3 vote)) act
      only act (inl same) = subst (DueToPrepare 3 1 (at (Tell 2 question None ∷ []) [] []) (at (told vote) [] []) no_records
          (Delivery (told_by_3 vote))) (sym same) (inr (inr (inl (concerned_3, shows))), prepares_so)
      only act (inr none) = absurd none

      all : (act : Act) →
          DueToPrepare 3 1 (at (Tell 2 question None ∷ []) [] []) (at (told vote) [] []) no_records (Delivery (told_by_3 vote)) act →
          In (key_of act) (second_id ∷ [])
      all (Prepares slot ballot chain) due = by_cause due.0
        where
          by_cause : Causes 3 1 (at (Tell 2 question None ∷ []) [] []) (at (told vote) [] [])
              (Delivery (told_by_3 vote)) slot.id slot.place chain →
              In slot.id (second_id ∷ [])
          by_cause (inl take) = absurd take
          by_cause (inr (inl close)) = absurd close
          by_cause (inr (inr (inl follow))) = inl (sym follow.1.about ∙ only_waiting account source
              (λ w. id_in w.request ≡ second_id) refl follow.1.waiting follow.1.waits)
          by_cause (inr (inr (inr (inl delete)))) = absurd (none_known 3 (told vote) (no_votes_3 vote) _ _ delete.deletes.further.known)
          by_cause (inr (inr (inr (inr tells)))) = absurd (none_known 3 (told vote) (no_votes_3 vote) _ _ tells.due.further.known)
      all act due = absurd due

  told_3_exact : IsExact among_three (at (Tell 2 question None ∷ []) [] []) no_records (Delivery (told_by_3 vote))
      (Prepares second_slot first_ballot vote.chain ∷ Receives (told_by_3 vote) ∷ [])
  told_3_exact = heard_exact account source (told_by_3 vote) (Tell 2 question None ∷ []) [] []
      (inl (concerned_3, record { answer = []; answered = refl; acts_are = refl }))
      (no_votes_3 vote) (unsettled_by_3 vote (told vote) (inl refl)) (Prepares second_slot first_ballot vote.chain ∷ []) []
      one_round
      (none_due_once (DueToPropose 3 1 (at (Tell 2 question None ∷ []) [] []) (at (told vote) [] []))
      (proposes_none (at (Tell 2 question None ∷ []) [] []) (told vote)))
      (Prepares second_slot first_ballot vote.chain ∷ Receives (told_by_3 vote) ∷ []) refl

  -- node 2 promises, and one promise is no majority
  promised_by_2 : (slot : Slot) (ballot node : ℕ) → (report : Option Vote) × In (Promise node slot ballot report) (promised vote) → node ≡ 2
  promised_by_2 slot ballot node p = elim p.1 [
    | inl same ↦ cc
    | inr earlier ↦ elim earlier
        [ inl same ↦ cc | inr first ↦ elim first [ inl same ↦ cc | inr none ↦ absurd none ] ]
  ]

  few_promised : (slot : Slot) (ballot : ℕ) → IsPromised 3 (at (promised vote) prepared_so (offered_so vote)) slot ballot → ⊥
  few_promised slot ballot majority = few_told _ (promised_by_2 slot ballot) majority

  no_follow_promise : (before : Actor) (received : List Packet) (node : ℕ) (id place : ℕ) (chain : List Decree) →
      CausesFollow 3 1 before (at received prepared_so (offered_so vote))
      (Delivery (Promise node second_slot first_ballot None)) id place chain →
      ⊥
  no_follow_promise before received node id place chain follow = follow

  proposes_none_yet : (before : Actor) (act : Act) → DueToPropose 3 1 before (at (promised vote) prepared_so (offered_so vote)) act → ⊥
  proposes_none_yet before (Proposes slot other) due = few_promised slot other.ballot due.0.promised
  proposes_none_yet before act due = due

  promised_2_exact : IsExact among_three (at (told vote) prepared_so (offered_so vote)) no_records
      (Delivery (Promise 2 second_slot first_ballot None)) (Receives (Promise 2 second_slot first_ballot None) ∷ [])
  promised_2_exact = heard_exact account source (Promise 2 second_slot first_ballot None) (told vote) prepared_so (offered_so vote)
      (inl ((record { least = omega arith; most = omega arith }, λ mine. inl refl), record { answer = []; answered = refl; acts_are = refl }))
      (no_votes_4 vote) (unsettled_by_3 vote (promised vote) (inr (inl refl))) [] []
      (none_due_once _ (no_cause (at (told vote) prepared_so (offered_so vote)) (Promise 2 second_slot first_ballot None)
      (promised vote) prepared_so (offered_so vote) (no_votes_4 vote)
      (no_follow_promise (at (told vote) prepared_so (offered_so vote)) (promised vote) 2)))
      (none_due_once (DueToPropose 3 1 (at (told vote) prepared_so (offered_so vote)) (at (promised vote) prepared_so (offered_so vote)))
      (proposes_none_yet (at (told vote) prepared_so (offered_so vote))))
      (Receives (Promise 2 second_slot first_ballot None) ∷ []) refl

  -- node 3 promises, and the chain of which it had told is proposed
  abbrev all_promised : List Packet
  all_promised = Promise 3 second_slot first_ballot None ∷ promised vote

  no_reports : (acceptor : ℕ) (top : Vote) → In (Promise acceptor second_slot first_ballot (Some top)) all_promised → ⊥
  no_reports acceptor top is_in = elim is_in [
    | inl same ↦ cc
    | inr earlier ↦ elim earlier [ inl same ↦ cc | inr others ↦ elim others [ inl same ↦ cc | inr first ↦ elim first [ inl same ↦ cc | inr none ↦ none ] ] ]
  ]

  running : IsRunning 3 1 (at all_promised prepared_so (offered_so vote)) second_slot first_ballot
  running = record {
    round = record { newer = []; older = []; split = refl; newest = λ sender other above none. absurd none };
    accepted = λ refused. elim refused.heard [
      | inl same ↦ cc
      | inr earlier ↦ elim earlier [ inl same ↦ cc | inr others ↦ elim others [ inl same ↦ cc | inr first ↦ elim first [ inl same ↦ cc | inr none ↦ none ] ] ]
    ];
    short = λ reached. none_known 3 all_promised (no_votes_5 vote) second_id reached.chain reached.known;
  }

  complete : IsCompleted 3 1 (at (promised vote) prepared_so (offered_so vote)) (at all_promised prepared_so (offered_so vote)) second_slot first_ballot
  complete = record {
    running = running;
    promised = two_and_three _ (None, inr (inl refl)) (None, inl refl);
    new = few_promised second_slot first_ballot;
  }

  round_slot : (slot : Slot) (ballot : ℕ) (newer rest : List Packet) → prepared_so ≡ newer ++ Prepare 1 slot ballot ∷ rest → slot ≡ second_slot
  round_slot slot ballot [] rest is = let heads : Prepare 1 second_slot first_ballot ≡ Prepare 1 slot ballot = cc in cc
  round_slot slot ballot (first ∷ newer) rest is = absurd (never_empty newer rest (Prepare 1 slot ballot) cc)

  one_proposal : AreDueOnce (DueToPropose 3 1 (at (promised vote) prepared_so (offered_so vote))
      (at all_promised prepared_so (offered_so vote))) (Proposes second_slot (vote_at first_ballot vote.chain) ∷ [])
  one_proposal = record { only = only; all = all; order = tt }
    where
      only : (act : Act) → In act (Proposes second_slot (vote_at first_ballot vote.chain) ∷ []) →
          DueToPropose 3 1 (at (promised vote) prepared_so (offered_so vote)) (at all_promised prepared_so (offered_so vote)) act
      only act (inl same) = subst (DueToPropose 3 1 (at (promised vote) prepared_so (offered_so vote))
          (at all_promised prepared_so (offered_so vote))) (sym same) (complete, inl (record { offered = inl refl; unreported = no_reports }))
      only act (inr none) = absurd none

      all : (act : Act) →
          DueToPropose 3 1 (at (promised vote) prepared_so (offered_so vote)) (at all_promised prepared_so (offered_so vote)) act →
          In (key_of act) (second_id ∷ [])
      all (Proposes slot other) due = inl (ap (λ (s : Slot). s.id)
          (round_slot slot other.ballot due.0.running.round.newer due.0.running.round.older due.0.running.round.split))
      all act due = absurd due

  promised_3_exact : IsExact among_three (at (promised vote) prepared_so (offered_so vote)) no_records
      (Delivery (Promise 3 second_slot first_ballot None))
      (Proposes second_slot (vote_at first_ballot vote.chain) ∷ Receives (Promise 3 second_slot first_ballot None) ∷ [])
  promised_3_exact = heard_exact account source (Promise 3 second_slot first_ballot None) (promised vote) prepared_so (offered_so vote)
      (inl ((record { least = omega arith; most = omega arith }, λ mine. inl refl), record { answer = []; answered = refl; acts_are = refl }))
      (no_votes_5 vote) (unsettled_by_3 vote all_promised (inr (inr (inl refl)))) [] (Proposes second_slot (vote_at first_ballot vote.chain) ∷ [])
      (none_due_once _ (no_cause (at (promised vote) prepared_so (offered_so vote))
      (Promise 3 second_slot first_ballot None) all_promised prepared_so (offered_so vote) (no_votes_5 vote)
      (no_follow_promise (at (promised vote) prepared_so (offered_so vote)) all_promised 3)))
      one_proposal
      (Proposes second_slot (vote_at first_ballot vote.chain) ∷ Receives (Promise 3 second_slot first_ballot None) ∷ []) refl

  pub follows : AreStepsAlone among_three (opened_new 1) (following account source vote)
  follows = (
    record {
      run = (
        record {
          least = omega arith;
          most = omega arith;
          up = refl;
          needs = record {
            proposer = refl;
            incarnation = refl;
            once = λ chain is_in. elim is_in [ inl same ↦ cc | inr none ↦ none ];
            justified = record {
              highest = None;
              majority = two_and_three _ (record { report = None; made = inr (inl refl); within = tt })
                  (record { report = None; made = inl refl; within = tt });
              carried = tt;
            };
            free = inl (inr (inr (inr (inl (3, question, vote.ballot, inr (inr (inl refl)))))));
          };
        },
        (record { least = omega arith; most = omega arith; up = refl; needs = tt }, tt),
      );
      exact = promised_3_exact;
    },
    (
      record { run = (record { least = omega arith; most = omega arith; up = refl; needs = tt }, tt); exact = promised_2_exact },
      (
        record {
          run = (
            record { least = omega arith; most = omega arith; up = refl; needs = (refl, refl) },
            (record { least = omega arith; most = omega arith; up = refl; needs = tt }, tt),
          );
          exact = told_3_exact;
        },
        (
          record { run = (record { least = omega arith; most = omega arith; up = refl; needs = tt }, tt); exact = told_2_exact },
          (
            record {
              run = (
                record {
                  least = omega arith;
                  most = omega arith;
                  up = refl;
                  needs = record
                      { waiting = asked_for account source; waits = inl refl; ticket_is = refl; about = refl };
                },
                (record { least = omega arith; most = omega arith; up = refl; needs = record { next = refl; room = refl; fit = tt } }, tt),
              );
              exact = arrival_exact;
            },
            tt,
          ),
        ),
      ),
    ),
  )
