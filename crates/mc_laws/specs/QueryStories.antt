-- Steps of a node by itself: a query_sm of a message of node 2 among three nodes, and a round that is carried on.
use Rattle.std.specs.Prelude.{ℕ, List, [], ◌∷◌, Some, None, false}
use Rattle.mc_model.specs.message.Decree.{Decree, Taken}
use Rattle.mc_model.specs.message.Submission.{Submission}
use Rattle.mc_model.specs.node.Act.{Act, Receives, Prepares, Proposes, Begins, Asks, Replies}
use Rattle.mc_model.specs.node.Actor.{Query, opening_clock, Actor, opened}
use Rattle.mc_model.specs.node.Alone.{Node, OwnStep}
use Rattle.mc_model.specs.node.Input.{Delivery, Arrival}
use Rattle.mc_model.specs.node.Replies.{Shown}
use Rattle.mc_model.specs.synod.Acceptor.{after_vote, with_record}
use Rattle.mc_model.specs.synod.Ballot.{ballot_of}
use Rattle.mc_model.specs.synod.OneSlot.{Vote, vote_at}
use Rattle.mc_model.specs.synod.Packet.{Promise, Slot, slot_at, Name, Prepare, Propose, Voted, Tell, top_at, Packet}
use Rattle.mc_laws.specs.Stories.{first_ballot}
use Rattle.mc_laws.specs.NodeStories.{no_records}

-- the first message of node 2
abbrev pub second_id : ℕ
second_id = 2000100001

abbrev pub second_slot : Slot
second_slot = slot_at second_id 0

-- by what the query_sm is asked, and what node 3 tells
abbrev pub question : Name
question = record { node = 1; incarnation = 1; ticket = 1 }

abbrev pub told_by_3 : Vote → Packet
told_by_3 vote = Tell 3 question (Some (top_at second_slot vote))

-- The query_sm comes and is asked; node 2 has nothing to tell, and node 3 tells of a vote. So a round is started for that
-- vote's chain; nodes 2 and 3 promise and report nothing, since node 3's vote came after its promise, and that chain is
-- proposed. The newest step stands first.
abbrev pub following : List ℕ → List ℕ → Vote → List OwnStep
following account source vote =
    record {
      input = Delivery (Promise 3 second_slot first_ballot None);
      acts = Proposes second_slot
          (vote_at first_ballot vote.chain) ∷ Receives (Promise 3 second_slot first_ballot None) ∷ [];
    }
    ∷ record {
      input = Delivery (Promise 2 second_slot first_ballot None);
      acts = Receives
          (Promise 2 second_slot first_ballot None) ∷ [];
    }
    ∷ record {
      input = Delivery (told_by_3 vote);
      acts = Prepares second_slot first_ballot vote.chain ∷ Receives (told_by_3 vote)
          ∷ [];
    }
    ∷ record { input = Delivery (Tell 2 question None); acts = Receives (Tell 2 question None) ∷ [] }
    ∷ record {
      input = Arrival (Query second_id account source);
      acts = Asks second_id 1 ∷ Begins 1
          (Query second_id account source) ∷ [];
    }
    ∷ []

-- the ballot of a round in the second incarnation, and one of node 3 above it
abbrev pub second_ballot : ℕ
second_ballot = ballot_of 2 2 1

abbrev pub third_ballot : ℕ
third_ballot = ballot_of 3 1 3

-- The node began its second incarnation with a vote, and started a round for its chain; since then it has voted for another,
-- and node 2 has promised.
abbrev pub carrying : Vote → List Decree → Node
carrying vote other = record {
  actor = record (opened 2 1) {
    received = Promise 2 second_slot second_ballot None ∷ Propose 3 second_slot (vote_at third_ballot other) ∷ [];
    sent = Prepare 1 second_slot second_ballot ∷ [];
    offers = record { slot = second_slot; ballot = second_ballot; chain = vote.chain } ∷ [];
  };
  records = with_record no_records second_slot (after_vote (vote_at third_ballot other));
  began = with_record no_records second_slot (after_vote vote);
}

-- Node 3 promises too and reports nothing; the chain of the round is proposed.
abbrev pub carrying_on : Vote → List Act
carrying_on vote =
    Proposes second_slot (vote_at second_ballot vote.chain) ∷ Receives (Promise 3 second_slot second_ballot None) ∷ []

-- the message of node 2 is taken, and so nodes 2 and 3 voted
abbrev pub second_chain : Submission → List Decree
second_chain message = record { author = record { node = 2; incarnation = 1 }; moment = opening_clock; kind = Taken message } ∷ []

abbrev pub second_vote : Submission → Vote
second_vote message = vote_at (ballot_of 1 1 2) (second_chain message)

-- The query_sm of its submitter waits, node 2 has told of its vote, and what is told is known.
abbrev pub asking_about : Submission → Actor
asking_about message = record (opened 1 1) {
  ticket = 2;
  received = Tell 2 question (Some (top_at second_slot (second_vote message)))
      ∷ Voted 3 second_slot (second_vote message)
      ∷ Voted 2 second_slot (second_vote message)
      ∷ [];
  waiting = record {
    ticket = 1;
    since = opening_clock;
    request = Query second_id message.submitter message.source.digits;
    settled = false;
  } ∷ [];
}

-- Node 3 tells too: that settles it, and ENROUTE is shown.
abbrev pub showing : Submission → List Act
showing message = Replies 1 second_id (Shown (second_chain message)) ∷ Receives (told_by_3 (second_vote message)) ∷ []
