-- The story of a delivery is a run.
use Rattle.std.proofs.Common.{◌≡◌, ℕ, pred, ◌≤◌, false, List, [], ◌∷◌, ◌++◌, length, map, refl, sym, ap, subst, inl, inr, arith}
use Rattle.mc_model.specs.message.Submission.{Submission}
use Rattle.mc_model.specs.message.Decree.{Decree, Taken, Attempt, Fate, Told, Delivered}
use Rattle.mc_model.specs.message.Receipts.{AsksReceipt}
use Rattle.mc_model.specs.synod.Lists.{In}
use Rattle.mc_model.specs.synod.OneSlot.{Vote, vote_at}
use Rattle.mc_model.specs.synod.Packet.{Slot, slot_at, slot_of, Packet, Prepare, Promise, Propose, Voted, Refused, Ask, Tell}
use Rattle.mc_model.specs.node.Outcome.{Concluded}
use Rattle.mc_model.specs.node.Actor.{Submit, opening_clock}
use Rattle.mc_model.specs.node.Knowledge.{IsLearned, Knows}
use Rattle.mc_model.specs.node.Replies.{Accepted}
use Rattle.mc_model.specs.node.Act.{Act, Begins, Replies, Reports, Grants, Concludes}
use Rattle.mc_model.specs.cluster.World.{World, May, reached, IsChosenIn, IsRun, after}
use Rattle.mc_laws.specs.Stories.{first_id, first_ballot, decreed, taken_chain, attempted_chain, delivered_chain, round_for, by_node_1}
use Rattle.mc_laws.specs.Stories.{delivering_story, delivered_slot, delivered_vote, delivery_story, one_node, told_chain, MayBeTried}
use Rattle.mc_parts.proofs.Membership.{in_right}
use Rattle.mc_laws.proofs.step.Behind.{run_on}
use Rattle.mc_laws.proofs.story.Rounds.{all_of_one, one_of_one, IsReady, round_runs}

-- ---- what is known by the votes that were told

-- the votes that a list of packets tells of are at places up to a bound, and one alone is in a slot
abbrev VoteWithin : ℕ → Slot → Vote → Packet → Type 0
VoteWithin bound slot vote (Voted sender other told) = (other.place ≤ bound) × (other.place ≡ slot.place → told ≡ vote)
VoteWithin bound slot vote (Prepare sender other ballot) = Unit {0}
VoteWithin bound slot vote (Promise sender other ballot report) = Unit {0}
VoteWithin bound slot vote (Propose sender other proposed) = Unit {0}
VoteWithin bound slot vote (Refused sender other ballot promised) = Unit {0}
VoteWithin bound slot vote (Ask sender id name) = Unit {0}
VoteWithin bound slot vote (Tell sender name told) = Unit {0}

abbrev VotesWithin : ℕ → Slot → Vote → List Packet → Type 0
VotesWithin bound slot vote [] = Unit {0}
VotesWithin bound slot vote (packet ∷ packets) = VoteWithin bound slot vote packet × VotesWithin bound slot vote packets

within : (bound : ℕ) (slot : Slot) (vote : Vote) (packets : List Packet) → VotesWithin bound slot vote packets → (packet : Packet) →
    In packet packets →
    VoteWithin bound slot vote packet
within bound slot vote [] are packet is_in = absurd is_in
within bound slot vote (first ∷ packets) are packet (inl same) = subst (VoteWithin bound slot vote) (sym same) are.0
within bound slot vote (first ∷ packets) are packet (inr later) = within bound slot vote packets are.1 packet later

in_whole : (packet : Packet) (newer older packets : List Packet) → packets ≡ newer ++ older → In packet older → In packet packets
in_whole packet newer older packets is is_in = subst (λ (ps : List Packet). In packet ps) (sym is) (in_right packet newer older is_in)

-- so node 1 knows the chain of the highest place
pub knows : (received : List Packet) (chain : List Decree) →
    VotesWithin (pred (length chain)) (slot_of first_id chain) (vote_at first_ballot chain) received →
    In (Voted 1 (slot_of first_id chain) (vote_at first_ballot chain)) received →
    Knows 1 received first_id chain
knows received chain are is_in = record {
  ballot = first_ballot;
  learned = all_of_one 1 _ refl is_in;
  longest = λ place vote learned. (within (pred (length chain)) (slot_of first_id chain) (vote_at first_ballot chain) received are _
      (one_of_one (λ acceptor. In (Voted acceptor (slot_at first_id place) vote) received) learned)).0;
  first = λ newer older vote is learned.
      let told = one_of_one (λ acceptor. In (Voted acceptor (slot_of first_id chain) vote) older) learned in
      let same : vote ≡ vote_at first_ballot chain =
      (within (pred (length chain)) (slot_of first_id chain) (vote_at first_ballot chain) received are _
      (in_whole (Voted 1 (slot_of first_id chain) vote) newer older received is told)).1 refl in
      (first_ballot, subst (λ (v : Vote). IsLearned 1 older (slot_of first_id chain) v) same learned);
}

-- proposals at two places are two
pub apart : (m n : ℕ) (slot other : Slot) (vote voted : Vote) → (slot.place ≡ other.place → ⊥) → Propose m slot vote ≡ Propose n other voted → ⊥
apart m n slot other vote voted places same = let slots : slot ≡ other = cc in places (ap (λ (s : Slot). s.place) slots)

-- ---- the story, part by part

abbrev pub begun : Submission → World
begun message = after one_node 1 (Begins 1 (Submit first_id message))

abbrev taken : Submission → World
taken message = reached (begun message) (map by_node_1 (round_for (taken_chain message)))

abbrev pub accepted : Submission → World
accepted message = after (taken message) 1 (Replies 1 first_id Accepted)

abbrev attempted : Submission → World
attempted message = reached (accepted message) (map by_node_1 (round_for (attempted_chain message)))

abbrev granted : Submission → World
granted message = after (attempted message) 1 (Grants (slot_of first_id (attempted_chain message)))

abbrev pub answered : Submission → World
answered message = after (granted message) 1 (Concludes (slot_of first_id (attempted_chain message)) (Concluded Delivered 0))

abbrev delivered : Submission → World
delivered message = reached (answered message) (map by_node_1 (round_for (delivered_chain message)))

abbrev told : Submission → World
told message = reached (delivered message) (map by_node_1 (round_for (told_chain message)))

may_begin : (message : Submission) → MayBeTried message → May one_node 1 (Begins 1 (Submit first_id message))
may_begin message tried = record {
  least = omega arith;
  most = omega arith;
  up = refl;
  needs = record {
    next = refl;
    room = refl;
    fit = record {
      serial = record { least = omega arith; most = omega arith };
      id_is = refl;
      takes = record
          { node = refl; incarnation = refl; expiry = tried.valid; schedule = let s = tried.scheduled in let v = tried.valid in omega (arith, s, v) };
    };
  };
}

ready_to_take : (message : Submission) → IsReady (begun message) (slot_of first_id (taken_chain message)) (vote_at first_ballot (taken_chain message))
ready_to_take message = record {
  nodes = refl;
  up = refl;
  proposer = refl;
  incarnation = refl;
  above = omega arith;
  unused = refl;
  once = λ chain is_in. absurd is_in;
  place = refl;
  mine = inl (record {
    waiting = record { ticket = 1; since = opening_clock; request = Submit first_id message; settled = false };
    message =
        message;
    waits = inl refl;
    submits = refl;
    chain_is = refl;
  });
}

knows_taken : (message : Submission) → Knows 1 ((taken message).actors 1).received first_id (taken_chain message)
knows_taken message = knows ((taken message).actors 1).received (taken_chain message) ((omega arith, λ same. refl), (tt, (tt, (tt, tt)))) (inl refl)

may_accept : (message : Submission) → May (taken message) 1 (Replies 1 first_id Accepted)
may_accept message = record {
  least = omega arith;
  most = omega arith;
  up = refl;
  needs = record {
    asked = record {
      waiting = record { ticket = 1; since = opening_clock; request = Submit first_id message; settled = false };
      waits =
          inl refl;
      ticket_is = refl;
      about = refl;
    };
    fits = record { chain = taken_chain message; known = knows_taken message };
  };
}

ready_to_attempt : (message : Submission) → MayBeTried message →
    IsReady (accepted message) (slot_of first_id (attempted_chain message)) (vote_at first_ballot (attempted_chain message))
ready_to_attempt message tried = record {
  nodes = refl;
  up = refl;
  proposer = refl;
  incarnation = refl;
  above = omega arith;
  unused = refl;
  once = λ chain is_in. elim is_in [
    | inl proposed ↦ apart 1 1 _ _ _ _ (λ place. omega (arith, place)) proposed
    | inr older ↦ elim older
        [ inl prepared ↦ cc | inr none ↦ absurd none ]
  ];
  place = refl;
  mine = inr (record {
    next = decreed (Attempt 1);
    newest = decreed (Taken message);
    older = [];
    taken = message;
    ballot = first_ballot;
    chain_is = refl;
    chosen = all_of_one 1 _ refl (inl refl);
    author = refl;
    moment = refl;
    message = refl;
    may = (omega arith, record { first = refl; scheduled = tried.scheduled; valid = tried.valid });
    allowed = tt;
    error = tt;
  });
}

knows_attempted : (message : Submission) → Knows 1 ((attempted message).actors 1).received first_id (attempted_chain message)
knows_attempted message =
    knows ((attempted message).actors 1).received (attempted_chain message)
    ((omega arith, λ same. refl), (tt, (tt, (tt, ((omega arith, λ same. absurd (omega (arith, same))), (tt, (tt, (tt, tt)))))))) (inl refl)

may_grant : (message : Submission) → May (attempted message) 1 (Grants (slot_of first_id (attempted_chain message)))
may_grant message = record {
  least = omega arith;
  most = omega arith;
  up = refl;
  needs = record {
    attempting = record {
      newest = decreed (Attempt 1);
      older = taken_chain message;
      number = 1;
      known = knows_attempted message;
      place = refl;
      attempt = refl;
      author = refl;
    };
    granted = λ none. none;
    closed = λ outcome none. none;
  };
}

may_answer : (message : Submission) → May (granted message) 1 (Concludes (slot_of first_id (attempted_chain message)) (Concluded Delivered 0))
may_answer message =
    record { least = omega arith; most = omega arith; up = refl; needs = record { granted = inl refl; closed = λ outcome none. none; possible = refl } }

ready_to_deliver : (message : Submission) →
    IsReady (answered message) (slot_of first_id (delivered_chain message)) (vote_at first_ballot (delivered_chain message))
ready_to_deliver message = record {
  nodes = refl;
  up = refl;
  proposer = refl;
  incarnation = refl;
  above = omega arith;
  unused = refl;
  once = λ chain is_in. elim is_in [
    | inl proposed ↦ apart 1 1 _ _ _ _ (λ place. omega (arith, place)) proposed
    | inr older ↦ elim older [
      | inl prepared ↦ cc
      | inr oldest ↦ elim oldest [
        | inl first ↦ apart 1 1 _ _ _ _ (λ place. omega (arith, place)) first
        | inr last ↦ elim last [ inl asked ↦ cc | inr none ↦ absurd none ]
      ]
    ]
  ];
  place = refl;
  mine = inr (record {
    next = decreed (Fate Delivered 0);
    newest = decreed (Attempt 1);
    older = taken_chain message;
    taken = message;
    ballot = first_ballot;
    chain_is = refl;
    chosen = all_of_one 1 _ refl (inl refl);
    author = refl;
    moment = refl;
    message = refl;
    may = (omega arith, refl);
    error = tt;
    allowed = inl (record { outcome = Concluded Delivered 0; incarnation = refl; closed = inl refl; kind = refl });
  });
}

ready_to_tell : (message : Submission) → AsksReceipt Delivered message →
    IsReady (delivered message) (slot_of first_id (told_chain message)) (vote_at first_ballot (told_chain message))
ready_to_tell message asks = record {
  nodes = refl;
  up = refl;
  proposer = refl;
  incarnation = refl;
  above = omega arith;
  unused = refl;
  once = λ chain is_in. elim is_in [
    | inl proposed ↦ apart 1 1 _ _ _ _ (λ place. omega (arith, place)) proposed
    | inr older ↦ elim older [
      | inl prepared ↦ cc
      | inr oldest ↦ elim oldest [
        | inl second ↦ apart 1 1 _ _ _ _ (λ place. omega (arith, place)) second
        | inr rest ↦ elim rest [
          | inl again ↦ cc
          | inr first ↦ elim first [
            | inl taking ↦ apart 1 1 _ _ _ _ (λ place. omega (arith, place)) taking
            | inr last ↦ elim last [ inl asked ↦ cc | inr none ↦ absurd none ]
          ]
        ]
      ]
    ]
  ];
  place = refl;
  mine = inr (record {
    next = decreed Told;
    newest = decreed (Fate Delivered 0);
    older = attempted_chain message;
    taken = message;
    ballot = first_ballot;
    chain_is = refl;
    chosen = all_of_one 1 _ refl (inl refl);
    author = refl;
    moment = refl;
    message = refl;
    may = (omega arith, record { node = refl; asked = asks });
    error = tt;
    allowed = tt;
  });
}

knows_told : (message : Submission) → Knows 1 ((told message).actors 1).received first_id (told_chain message)
knows_told message = knows ((told message).actors 1).received (told_chain message) ((omega arith, λ same. refl), (tt, (tt, (tt, ((omega arith, λ same. absurd (omega (arith, same))), (tt, (tt, (tt, ((omega arith, λ same. absurd (omega (arith, same))), (tt, (tt, (tt, ((omega arith, λ same. absurd (omega (arith, same))), (tt, (tt, (tt, tt)))))))))))))))) (inl refl)

may_report : (message : Submission) → May (told message) 1 (Reports first_id (told_chain message))
may_report message = record {
  least = omega arith;
  most = omega arith;
  up = refl;
  needs = record {
    named = refl;
    known = knows_told message;
    told = record { told = decreed Told; older = delivered_chain message; chain_is = refl; kind = refl; author = refl };
  };
}

-- ---- all of it

taken_run : (message : Submission) → MayBeTried message →
    IsRun one_node (map by_node_1 (round_for (taken_chain message)) ++ (1, Begins 1 (Submit first_id message)) ∷ [])
taken_run message tried =
    run_on one_node (map by_node_1 (round_for (taken_chain message))) ((1, Begins 1 (Submit first_id message)) ∷ [])
    (round_runs (begun message) _ _ (ready_to_take message)) (may_begin message tried, tt)

abbrev pub until_accepted : Submission → List (ℕ × Act)
until_accepted message = (1, Replies 1 first_id Accepted) ∷ map by_node_1 (round_for (taken_chain message)) ++ (1, Begins 1 (Submit first_id message)) ∷ []

pub accepted_run : (message : Submission) → MayBeTried message → IsRun one_node (until_accepted message)
accepted_run message tried = (may_accept message, taken_run message tried)

abbrev until_answered : Submission → List (ℕ × Act)
until_answered message =
    (1, Concludes (slot_of first_id (attempted_chain message)) (Concluded Delivered 0))
    ∷ (1, Grants (slot_of first_id (attempted_chain message)))
    ∷ map by_node_1 (round_for (attempted_chain message)) ++ until_accepted message

answered_run : (message : Submission) → MayBeTried message → IsRun one_node (until_answered message)
answered_run message tried =
    (may_answer message, (may_grant message, run_on one_node (map by_node_1 (round_for (attempted_chain message))) (until_accepted message) (round_runs (accepted message) _ _ (ready_to_attempt message tried)) (accepted_run message tried)))

pub delivering_run : (message : Submission) → MayBeTried message → IsRun one_node (delivering_story message)
delivering_run message tried = run_on one_node (map by_node_1 (round_for (delivered_chain message))) (until_answered message)
    (round_runs (answered message) _ _ (ready_to_deliver message)) (answered_run message tried)

pub delivered_chosen : (message : Submission) → IsChosenIn (reached one_node (delivering_story message)) delivered_slot (delivered_vote message)
delivered_chosen message = all_of_one 1 _ refl (inl refl)

pub delivery_run : (message : Submission) → MayBeTried message → AsksReceipt Delivered message → IsRun one_node (delivery_story message)
delivery_run message tried asks = (
  may_report message,
  run_on one_node (map by_node_1 (round_for (told_chain message))) (delivering_story message)
      (round_runs (delivered message) _ _ (ready_to_tell message asks)) (delivering_run message tried),
)
