-- Steps of a node by itself: a tick, for each of its rules.
use Rattle.std.specs.Prelude.{ℕ, List, [], ◌∷◌, Some, true, false, zero, suc}
use Rattle.mc_model.specs.message.Decree.{Decree, Attempt, Fate, Failed, Expired, Undeliverable}
use Rattle.mc_model.specs.message.Submission.{Submission}
use Rattle.mc_model.specs.node.Act.{Act, Prepares, Abandons, Ticks}
use Rattle.mc_model.specs.node.Actor.{Submit, opening_clock, Actor, opened}
use Rattle.mc_model.specs.node.Alone.{Node}
use Rattle.mc_model.specs.synod.Acceptor.{after_vote, with_record}
use Rattle.mc_model.specs.synod.Ballot.{ballot_of}
use Rattle.mc_model.specs.synod.OneSlot.{vote_at}
use Rattle.mc_model.specs.synod.Packet.{Slot, slot_of, Name, Prepare, Voted, Tell, top_at}
use Rattle.mc_laws.specs.Stories.{attempted_chain, decreed, first_ballot, first_id, taken_chain, taken_slot, taken_vote}
use Rattle.mc_laws.specs.NodeStories.{decreed_in, no_records, opening_ballot}
use Rattle.mc_laws.specs.CancelStories.{cancelling_at}
use Rattle.mc_laws.specs.QueryStories.{second_slot}

-- a minute after the opening clock
abbrev pub one_minute_later : ℕ
one_minute_later = 946684860

-- a tick that starts a round for a chain, and one that gives an attempt up before that
abbrev pub starting : ℕ → ℕ → List Decree → List Act
starting incarnation moment chain = Prepares (slot_of first_id chain) (opening_ballot incarnation) chain ∷ Ticks moment ∷ []

abbrev pub giving_up : ℕ → ℕ → Slot → List Decree → List Act
giving_up incarnation moment slot chain =
    Prepares (slot_of first_id chain) (opening_ballot incarnation) chain ∷ Abandons slot ∷ Ticks moment ∷ []

-- a message whose attempts failed so often, each by error 100
abbrev pub failed_chain : ℕ → Submission → List Decree
failed_chain zero message = taken_chain message
failed_chain (suc number) message = decreed (Failed 100) ∷ decreed (Attempt (suc number)) ∷ failed_chain number message

-- the chains that ticks start rounds for
abbrev pub expired_chain : Submission → List Decree
expired_chain message = decreed_in 1 one_minute_later (Fate Expired 0) ∷ taken_chain message

abbrev pub undelivered_chain : Submission → List Decree
undelivered_chain message = decreed (Fate Undeliverable 100) ∷ failed_chain 8 message

abbrev pub lost_chain : Submission → List Decree
lost_chain message = decreed_in 2 opening_clock (Failed 999) ∷ attempted_chain message

abbrev pub given_up_chain : Submission → List Decree
given_up_chain message = decreed (Failed 998) ∷ attempted_chain message

-- A node started anew with a vote for a chain of another node's message, of which it knows nothing yet.
abbrev pub voted_before : List Decree → Node
voted_before chain = record {
  actor = opened 2 1;
  records = with_record no_records second_slot (after_vote (vote_at first_ballot chain));
  began = with_record no_records second_slot (after_vote (vote_at first_ballot chain));
}

-- A submit_sm waits, and its round of before is dropped.
abbrev pub taking_again : Submission → Actor
taking_again message = record (opened 1 1) {
  serial = 2;
  ticket = 2;
  waiting = record { ticket = 1; since = opening_clock; request = Submit first_id message; settled = false } ∷ [];
  sent = Prepare 1 taken_slot first_ballot ∷ [];
  offers = record { slot = taken_slot; ballot = first_ballot; chain = taken_chain message } ∷ [];
}

-- the ballot of the second round of the first incarnation
abbrev pub again_ballot : ℕ
again_ballot = ballot_of 2 1 1

-- A cancel_sm is settled and waits, and no round runs.
abbrev pub first_question : Name
first_question = record { node = 1; incarnation = 1; ticket = 1 }

abbrev pub cancelled_once : Submission → Actor
cancelled_once message = record (opened 1 1) {
  serial = 2;
  ticket = 2;
  received = Tell 1 first_question (Some (top_at taken_slot (taken_vote message)))
      ∷ Voted 1 taken_slot (taken_vote message)
      ∷ [];
  waiting = cancelling_at message 1 true ∷ [];
}
