-- The stories of a query_sm and of a cancel_sm are runs.
use Rattle.std.proofs.Common.{◌≡◌, ℕ, ◌≤◌, Bool, true, false, List, [], ◌∷◌, ◌++◌, pred, length, map, Some, refl, sym, ap, subst, inl, inr, arith}
use Rattle.std.specs.Prelude.{if◌then◌else◌}
use Rattle.mc_model.specs.message.Submission.{Submission}
use Rattle.mc_model.specs.message.Decree.{Decree, Taken, Fate, Deleted}
use Rattle.mc_model.specs.synod.Lists.{In}
use Rattle.mc_model.specs.synod.OneSlot.{Vote, vote_at}
use Rattle.mc_model.specs.synod.Packet.{Slot, slot_at, slot_of, same_slot, Packet, Prepare, Promise, Propose, Voted, Refused, TopVote, Ask, Tell}
use Rattle.mc_model.specs.synod.Acceptor.{SlotRecord, Records, blank, with_record, after_promise, after_vote, IsTop}
use Rattle.mc_model.specs.node.Actor.{Query, Cancel, Waiting, opening_clock}
use Rattle.mc_model.specs.node.Room.{IsWaiting}
use Rattle.mc_model.specs.node.Knowledge.{Knows}
use Rattle.mc_model.specs.node.Settling.{HasTold, IsReached, IsSettled}
use Rattle.mc_model.specs.node.Proposal.{IsMatch}
use Rattle.mc_model.specs.node.Replies.{Shown, Removed}
use Rattle.mc_model.specs.node.Act.{Act, Begins, Settles, Replies}
use Rattle.mc_model.specs.cluster.World.{World, May, reached, IsRun, after}
use Rattle.mc_laws.specs.Stories.{delivering_story, first_id, first_ballot, taken_chain, attempted_chain, delivered_chain, round_for}
use Rattle.mc_laws.specs.Stories.{deleted_chain, decreed, by_node_1, one_node, MayBeTried}
use Rattle.mc_laws.specs.AnswerStories.{asking, told_of, question_for, query_story, cancel_story}
use Rattle.mc_parts.proofs.Membership.{slots_same}
use Rattle.mc_laws.proofs.step.Behind.{run_on}
use Rattle.mc_laws.proofs.story.Rounds.{all_of_one, IsReady, round_runs}
use Rattle.mc_laws.proofs.story.Delivery.{apart, begun, accepted, answered, knows, until_accepted, accepted_run, delivering_run}

-- ---- what is told by the records

-- no vote for the message stands above a place
abbrev NoneAbove : ℕ → Records → Type 0
NoneAbove bound records = (place : ℕ) (vote : Vote) → (records (slot_at first_id place)).vote ≡ Some vote → place ≤ bound

none_in_blank : (bound : ℕ) → NoneAbove bound (λ slot. blank)
none_in_blank bound place vote is = absurd cc

none_with : (bound : ℕ) (records : Records) (slot : Slot) (new : SlotRecord) → slot.place ≤ bound → NoneAbove bound records →
    NoneAbove bound (with_record records slot new)
none_with bound records slot new below none place vote is = by_test (same_slot (slot_at first_id place) slot) refl
  where
    by_test : (test : Bool) → same_slot (slot_at first_id place) slot ≡ test → place ≤ bound
    by_test true same = let places : place ≡ slot.place = ap (λ (s : Slot). s.place) (slots_same (slot_at first_id place) slot same) in
        omega (arith, places, below)
    by_test false other = none place vote (subst (λ (test : Bool). (if test then new else records (slot_at first_id place)).vote ≡ Some vote) other is)

-- a round of the node writes a record twice
none_after : (bound : ℕ) (w : World) (chain : List Decree) → pred (length chain) ≤ bound → NoneAbove bound (w.records 1) →
    NoneAbove bound ((reached w (map by_node_1 (round_for chain))).records 1)
none_after bound w chain below none =
    let promise = after_promise (w.records 1 (slot_of first_id chain)) first_ballot in
    none_with bound (with_record (w.records 1) (slot_of first_id chain) promise) (slot_of first_id chain)
    (after_vote (vote_at first_ballot chain)) below (none_with bound (w.records 1) (slot_of first_id chain) promise below none)

-- ---- what is settled by what was told

-- all that a list of packets tells of how far chains have come is this
abbrev TellsOnce : TopVote → Packet → Type 0
TellsOnce told (Tell sender name other) = other ≡ Some told
TellsOnce told (Voted sender slot vote) = Unit {0}
TellsOnce told (Prepare sender slot ballot) = Unit {0}
TellsOnce told (Promise sender slot ballot report) = Unit {0}
TellsOnce told (Propose sender slot proposed) = Unit {0}
TellsOnce told (Refused sender slot ballot promised) = Unit {0}
TellsOnce told (Ask sender id name) = Unit {0}

abbrev TellOnce : TopVote → List Packet → Type 0
TellOnce told [] = Unit {0}
TellOnce told (packet ∷ packets) = TellsOnce told packet × TellOnce told packets

once : (told : TopVote) (packets : List Packet) → TellOnce told packets → (packet : Packet) → In packet packets → TellsOnce told packet
once told [] are packet is_in = absurd is_in
once told (first ∷ packets) are packet (inl same) = subst (TellsOnce told) (sym same) are.0
once told (first ∷ packets) are packet (inr later) = once told packets are.1 packet later

settled : (received : List Packet) (chain : List Decree) → TellOnce (told_of chain) received →
    In (Tell 1 asking (Some (told_of chain))) received →
    IsSettled 1 received asking (Some chain)
settled received chain are is_in = record {
  majority = all_of_one 1 (HasTold received asking) refl (record { told = Some (told_of chain); heard = is_in });
  reached = λ node told heard. subst (IsReached (Some chain)) (sym (once (told_of chain) received are (Tell node asking told) heard)) (omega arith);
}

-- ---- a question

-- each act of a question may be done where it stands
question_runs : (w : World) (chain : List Decree) → w.nodes ≡ 1 → (w.actors 1).up ≡ true → (w.actors 1).incarnation ≡ 1 →
    IsWaiting (w.actors 1) first_id 2 → IsTop (w.records 1) first_id (told_of chain) →
    IsRun w (map by_node_1 (question_for chain))
question_runs w chain nodes up incarnation waiting top = (
  record { least = omega arith; most = omega (arith, nodes); up = up; needs = inl refl },
  (
    record { least = omega arith; most = omega (arith, nodes); up = up; needs = record { asker = 1; asked = inl refl; told_is = top } },
    (
      record {
        least = omega arith;
        most = omega (arith, nodes);
        up = up;
        needs = inl
            (ap (λ (n : ℕ). Ask 1 first_id (record { node = 1; incarnation = n; ticket = 2 })) (sym incarnation));
      },
      (record { least = omega arith; most = omega (arith, nodes); up = up; needs = waiting }, tt),
    ),
  ),
)

-- ---- a query_sm

abbrev queried : Submission → World
queried message = reached one_node ((1, Begins 2 (Query first_id message.submitter message.source.digits)) ∷ delivering_story message)

abbrev heard : Submission → World
heard message = reached (queried message) (map by_node_1 (question_for (delivered_chain message)))

abbrev querying : Submission → Waiting
querying message = record { ticket = 2; since = opening_clock; request = Query first_id message.submitter message.source.digits; settled = false }

top_delivered : (message : Submission) → IsTop ((queried message).records 1) first_id (told_of (delivered_chain message))
top_delivered message = record {
  about = refl;
  voted = refl;
  highest = none_after 2 (answered message) (delivered_chain message) (omega arith)
      (none_after 2 (accepted message) (attempted_chain message) (omega arith)
      (none_after 2 (begun message) (taken_chain message) (omega arith) (none_in_blank 2)));
}

knows_still : (message : Submission) → Knows 1 ((heard message).actors 1).received first_id (delivered_chain message)
knows_still message = knows ((heard message).actors 1).received (delivered_chain message) (tt, (tt, ((omega arith, λ same. refl), (tt, (tt, (tt, ((omega arith, λ same. absurd (omega (arith, same))), (tt, (tt, (tt, ((omega arith, λ same. absurd (omega (arith, same))), (tt, (tt, (tt, tt)))))))))))))) (inr (inr (inl refl)))

may_show : (message : Submission) → May (heard message) 1 (Replies 2 first_id (Shown (delivered_chain message)))
may_show message = record {
  least = omega arith;
  most = omega arith;
  up = refl;
  needs = record {
    asked = record { waiting = querying message; waits = inl refl; ticket_is = refl; about = refl };
    fits = record {
      taken = message;
      known = knows_still message;
      settled = settled ((heard message).actors 1).received (delivered_chain message)
          (refl, (tt, (tt, (tt, (tt, (tt, (tt, (tt, (tt, (tt, (tt, (tt, (tt, (tt, tt)))))))))))))) (inl refl);
      message = refl;
      owner = record { same_account = refl; same_source = refl };
    };
  };
}

begun_query : (message : Submission) → MayBeTried message →
    IsRun one_node ((1, Begins 2 (Query first_id message.submitter message.source.digits)) ∷ delivering_story message)
begun_query message tried =
    (record { least = omega arith; most = omega arith; up = refl; needs = record { next = refl; room = refl; fit = tt } }, delivering_run message tried)

pub query_run : (message : Submission) → MayBeTried message → IsRun one_node (query_story message)
query_run message tried =
    let waits : IsWaiting ((queried message).actors 1) first_id 2 = record { waiting = querying message; waits = inl refl; ticket_is = refl; about = refl } in (
      may_show message,
      run_on one_node (map by_node_1 (question_for (delivered_chain message)))
          ((1, Begins 2 (Query first_id message.submitter message.source.digits)) ∷ delivering_story message)
          (question_runs (queried message) (delivered_chain message) refl refl refl waits (top_delivered message)) (begun_query message tried),
    )

-- ---- a cancel_sm

abbrev until_called : Submission → List (ℕ × Act)
until_called message = (1, Begins 2 (Cancel first_id message.submitter message.source.digits [])) ∷ until_accepted message

abbrev called : Submission → World
called message = reached one_node (until_called message)

abbrev told : Submission → World
told message = reached (called message) (map by_node_1 (question_for (taken_chain message)))

abbrev settled_at : Submission → World
settled_at message = after (told message) 1 (Settles 2)

abbrev deleted : Submission → World
deleted message = reached (settled_at message) (map by_node_1 (round_for (deleted_chain message)))

abbrev cancelling : Submission → Bool → Waiting
cancelling message settled =
    record { ticket = 2; since = opening_clock; request = Cancel first_id message.submitter message.source.digits []; settled = settled }

matches : (message : Submission) → IsMatch message message.submitter message.source.digits []
matches message = record { owner = record { same_account = refl; same_source = refl }; same_destination = inl refl }

top_taken : (message : Submission) → IsTop ((called message).records 1) first_id (told_of (taken_chain message))
top_taken message = record { about = refl; voted = refl; highest = none_after 0 (begun message) (taken_chain message) (omega arith) (none_in_blank 0) }

may_settle : (message : Submission) → May (told message) 1 (Settles 2)
may_settle message = record {
  least = omega arith;
  most = omega arith;
  up = refl;
  needs = record {
    id = first_id;
    known = Some (taken_chain message);
    asked = record { waiting = cancelling message false; waits = inl refl; ticket_is = refl; about = refl };
    knows = knows ((told message).actors 1).received (taken_chain message) (tt, (tt, ((omega arith, λ same. refl), (tt, (tt, (tt, tt))))))
        (inr (inr (inl refl)));
    settled = settled ((told message).actors 1).received (taken_chain message) (refl, (tt, (tt, (tt, (tt, (tt, tt)))))) (inl refl);
  };
}

ready_to_delete : (message : Submission) →
    IsReady (settled_at message) (slot_of first_id (deleted_chain message)) (vote_at first_ballot (deleted_chain message))
ready_to_delete message = record {
  nodes = refl;
  up = refl;
  proposer = refl;
  incarnation = refl;
  above = omega arith;
  unused = refl;
  once = λ chain is_in. elim is_in [
    | inl proposed ↦ apart 1 1 _ _ _ _ (λ place. omega (arith, place)) proposed
    | inr older ↦ elim older
        [ inl prepared ↦ cc | inr none ↦ absurd none ]
  ];
  place = refl;
  mine = inr (record {
    next = decreed (Fate Deleted 0);
    newest = decreed (Taken message);
    older = [];
    taken = message;
    ballot = first_ballot;
    chain_is = refl;
    chosen = all_of_one 1 _ refl (inl refl);
    author = refl;
    moment = refl;
    message = refl;
    may = (omega arith, tt);
    allowed = record { waiting = cancelling message true; waits = inl refl; settled = refl; cancels = (refl, matches message) };
    error = refl;
  });
}

may_remove : (message : Submission) → May (deleted message) 1 (Replies 2 first_id (Removed (deleted_chain message)))
may_remove message = record {
  least = omega arith;
  most = omega arith;
  up = refl;
  needs = record {
    asked = record { waiting = cancelling message true; waits = inl refl; ticket_is = refl; about = refl };
    fits = record {
      taken = message;
      known = knows ((deleted message).actors 1).received (deleted_chain message) ((omega arith, λ same. refl), (tt, (tt, (tt, (tt, (tt, ((omega arith, λ same. absurd (omega (arith, same))), (tt, (tt, (tt, tt)))))))))) (inl refl);
      settled = refl;
      message = refl;
      matched = matches message;
      deleted = refl;
    };
  };
}

begun_cancel : (message : Submission) → MayBeTried message → IsRun one_node (until_called message)
begun_cancel message tried =
    (record { least = omega arith; most = omega arith; up = refl; needs = record { next = refl; room = refl; fit = tt } }, accepted_run message tried)

abbrev until_settled : Submission → List (ℕ × Act)
until_settled message = (1, Settles 2) ∷ map by_node_1 (question_for (taken_chain message)) ++ until_called message

settled_run : (message : Submission) → MayBeTried message → IsRun one_node (until_settled message)
settled_run message tried =
    let waits : IsWaiting ((called message).actors 1) first_id 2 = record
    { waiting = cancelling message false; waits = inl refl; ticket_is = refl; about = refl } in (
      may_settle message,
      run_on one_node (map by_node_1 (question_for (taken_chain message))) (until_called message)
          (question_runs (called message) (taken_chain message) refl refl refl waits (top_taken message)) (begun_cancel message tried),
    )

pub cancel_run : (message : Submission) → MayBeTried message → IsRun one_node (cancel_story message)
cancel_run message tried = (
  may_remove message,
  run_on one_node (map by_node_1 (round_for (deleted_chain message))) (until_settled message)
      (round_runs (settled_at message) _ _ (ready_to_delete message)) (settled_run message tried),
)
