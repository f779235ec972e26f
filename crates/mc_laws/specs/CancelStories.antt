-- Steps of a node by itself: two cancel_sms of one message wait.
use Rattle.std.specs.Prelude.{ℕ, List, [], ◌∷◌, Some, true, false, Bool}
use Rattle.mc_model.specs.message.Submission.{Submission}
use Rattle.mc_model.specs.node.Act.{Act, Receives, Prepares, Settles}
use Rattle.mc_model.specs.node.Actor.{Cancel, opening_clock, Actor, Waiting, opened}
use Rattle.mc_model.specs.synod.Ballot.{ballot_of}
use Rattle.mc_model.specs.synod.Packet.{Slot, slot_at, Name, Prepare, Voted, Tell, top_at, Packet, Refused}
use Rattle.mc_laws.specs.Stories.{deleted_chain, first_ballot, first_id, taken_slot, taken_vote}

-- the slot in which the first message is taken, and the one behind it; the vote for its taking
abbrev pub behind_slot : Slot
behind_slot = slot_at first_id 1

-- a ballot of node 2, and the next of node 1 above it
abbrev pub high_ballot : ℕ
high_ballot = ballot_of 5 1 2

abbrev pub next_ballot : ℕ
next_ballot = ballot_of 6 1 1

abbrev pub second_question : Name
second_question = record { node = 1; incarnation = 1; ticket = 2 }

abbrev pub told_of_taking : Submission → Packet
told_of_taking message = Tell 1 second_question (Some (top_at taken_slot (taken_vote message)))

abbrev pub cancelling_at : Submission → ℕ → Bool → Waiting
cancelling_at message ticket settled = record {
  ticket = ticket;
  since = opening_clock;
  request = Cancel first_id message.submitter message.source.digits [];
  settled = settled;
}

-- The node knows that the message is taken. The first cancel_sm is settled, and its round was refused; the second is not settled
-- yet.
abbrev pub cancelled_twice : Submission → Actor
cancelled_twice message = record (opened 1 1) {
  serial = 2;
  ticket = 3;
  received = Refused 1 behind_slot first_ballot high_ballot ∷ Voted 1 taken_slot (taken_vote message) ∷ [];
  waiting = cancelling_at message 1 true ∷ cancelling_at message 2 false ∷ [];
  sent = Prepare 1 behind_slot first_ballot ∷ [];
  offers = record { slot = behind_slot; ballot = first_ballot; chain = deleted_chain message } ∷ [];
}

-- The second is settled by the Tell, and starts a round of its own.
abbrev pub cancelling_again : Submission → List Act
cancelling_again message =
    Prepares behind_slot next_ballot (deleted_chain message)
    ∷ Settles 2
    ∷ Receives (told_of_taking message)
    ∷ []
