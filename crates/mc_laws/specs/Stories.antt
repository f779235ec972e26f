-- What may happen: a cluster of one node takes a message, delivers it and says so.
use Rattle.std.specs.Prelude.{ℕ, ◌<◌, ◌≤◌, List, [], ◌∷◌, ◌++◌, map, None, true}
use Rattle.mc_model.specs.cluster.World.{World, Deed, start}
use Rattle.mc_model.specs.message.Decree.{Decree, Kind, Taken, Attempt, Fate, Told, Delivered, Deleted}
use Rattle.mc_model.specs.message.Submission.{Submission}
use Rattle.mc_model.specs.node.Act.{
  Act,
  Receives,
  Promises,
  Votes,
  Prepares,
  Proposes,
  Begins,
  Replies,
  Reports,
  Grants,
  Concludes,
}
use Rattle.mc_model.specs.node.Actor.{Submit, opening_clock}
use Rattle.mc_model.specs.node.Outcome.{Concluded}
use Rattle.mc_model.specs.node.Replies.{Accepted}
use Rattle.mc_model.specs.node.Setup.{Setup}
use Rattle.mc_model.specs.synod.OneSlot.{Vote, vote_at}
use Rattle.mc_model.specs.synod.Packet.{Promise, Slot, slot_at, slot_of, Prepare, Propose, Voted}

-- the first message of node 1 in its first incarnation
abbrev pub first_id : ℕ
first_id = 1000100001

-- its first ballot
abbrev pub first_ballot : ℕ
first_ballot = 262161

-- a decree of the node at its opening clock
abbrev pub decreed : Kind → Decree
decreed kind = record { author = record { node = 1; incarnation = 1 }; moment = opening_clock; kind = kind }

abbrev pub taken_chain : Submission → List Decree
taken_chain message = decreed (Taken message) ∷ []

abbrev pub attempted_chain : Submission → List Decree
attempted_chain message = decreed (Attempt 1) ∷ taken_chain message

abbrev pub delivered_chain : Submission → List Decree
delivered_chain message = decreed (Fate Delivered 0) ∷ attempted_chain message

abbrev pub told_chain : Submission → List Decree
told_chain message = decreed Told ∷ delivered_chain message

abbrev pub deleted_chain : Submission → List Decree
deleted_chain message = decreed (Fate Deleted 0) ∷ taken_chain message

-- The node alone settles a slot: it asks itself for a promise and for a vote, and hears of both. The newest act stands first.
abbrev pub round : Slot → Vote → List Act
round slot vote =
    Receives (Voted 1 slot vote)
    ∷ Votes slot vote true
    ∷ Receives (Propose 1 slot vote)
    ∷ Proposes slot vote
    ∷ Receives (Promise 1 slot vote.ballot None)
    ∷ Promises slot vote.ballot true
    ∷ Receives (Prepare 1 slot vote.ballot)
    ∷ Prepares slot vote.ballot vote.chain
    ∷ []

abbrev pub round_for : List Decree → List Act
round_for chain = round (slot_of first_id chain) (vote_at first_ballot chain)

-- The submit_sm comes, the message is taken, and the submit_sm is answered.
abbrev pub taking_acts : Submission → List Act
taking_acts message =
    Replies 1 first_id Accepted
    ∷ round_for (taken_chain message)
    ++ Begins 1 (Submit first_id message)
    ∷ []

-- Then an attempt is begun, granted and answered ESME_ROK, and the message is delivered.
abbrev pub delivering_acts : Submission → List Act
delivering_acts message =
    round_for (delivered_chain message)
    ++ Concludes (slot_of first_id (attempted_chain message)) (Concluded Delivered 0)
    ∷ Grants (slot_of first_id (attempted_chain message))
    ∷ round_for (attempted_chain message)
    ++ taking_acts message

-- Its receipt is told, and goes out.
abbrev pub delivery_acts : Submission → List Act
delivery_acts message = Reports first_id (told_chain message) ∷ round_for (told_chain message) ++ delivering_acts message

abbrev pub by_node_1 : Act → ℕ × Act
by_node_1 act = (1, act)

abbrev pub delivering_story : Submission → List (ℕ × Act)
delivering_story message = map by_node_1 (delivering_acts message)

abbrev pub delivery_story : Submission → List (ℕ × Act)
delivery_story message = map by_node_1 (delivery_acts message)

-- the fate by which it is delivered
abbrev pub delivered_slot : Slot
delivered_slot = slot_at first_id 2

abbrev pub delivered_vote : Submission → Vote
delivered_vote message = vote_at first_ballot (delivered_chain message)

-- the deed with which it ends
abbrev pub last_deed : Submission → Deed
last_deed message = record { node = 1; incarnation = 1; act = Reports first_id (told_chain message) }

-- a cluster of one node, whose messages are counted from 1
abbrev pub one_node : World
one_node = start 1 (λ node. 1)

-- and that node's setup
abbrev pub first_setup : Setup
first_setup = record { node = 1; nodes = 1; first_serial = 1; default_validity = 259200 }

-- the message may be taken and tried at once
pub record MayBeTried (message : Submission) : Type 0 where
  pub scheduled : message.schedule ≤ opening_clock
  pub valid : opening_clock < message.expiry

-- the first step of a node: a submit_sm comes, and a round for its message is started
abbrev pub first_step : Submission → List Act
first_step message =
    Prepares (slot_of first_id (taken_chain message)) first_ballot (taken_chain message) ∷ Begins 1 (Submit first_id message) ∷ []

-- the slot in which the first message is taken, and the vote for that
abbrev pub taken_slot : Slot
taken_slot = slot_at first_id 0

abbrev pub taken_vote : Submission → Vote
taken_vote message = vote_at first_ballot (taken_chain message)

-- a cluster of three nodes, each of which counts its messages from 1
abbrev pub three_nodes : World
three_nodes = start 3 (λ node. 1)
