-- What may happen: a node of three stops between a save and its answer.
use Rattle.std.specs.Prelude.{ℕ, List, [], ◌∷◌, None, true, false}
use Rattle.mc_model.specs.cluster.World.{Deed}
use Rattle.mc_model.specs.message.Submission.{Submission}
use Rattle.mc_model.specs.node.Act.{Act, Receives, Promises, Votes, Prepares, Proposes, Begins, Replies, Stops, Restarts}
use Rattle.mc_model.specs.node.Actor.{Submit}
use Rattle.mc_model.specs.node.Replies.{Accepted}
use Rattle.mc_model.specs.synod.Packet.{Promise, Prepare, Propose, Voted}
use Rattle.mc_laws.specs.Stories.{first_ballot, first_id, taken_chain, taken_slot, taken_vote}

-- The submit_sm comes to node 1, and nodes 1 and 2 promise it its first ballot.
abbrev pub until_promised : Submission → List (ℕ × Act)
until_promised message =
    (1, Receives (Promise 2 taken_slot first_ballot None))
    ∷ (1, Receives (Promise 1 taken_slot first_ballot None))
    ∷ (2, Promises taken_slot first_ballot true)
    ∷ (2, Receives (Prepare 1 taken_slot first_ballot))
    ∷ (1, Promises taken_slot first_ballot true)
    ∷ (1, Receives (Prepare 1 taken_slot first_ballot))
    ∷ (1, Prepares taken_slot first_ballot (taken_chain message))
    ∷ (1, Begins 1 (Submit first_id message))
    ∷ []

-- Node 1 proposes that the message is taken; node 2 saves its vote, and stops before it has told of it.
abbrev pub until_stopped : Submission → List (ℕ × Act)
until_stopped message =
    (2, Stops)
    ∷ (2, Votes taken_slot (taken_vote message) false)
    ∷ (2, Receives (Propose 1 taken_slot (taken_vote message)))
    ∷ (1, Proposes taken_slot (taken_vote message))
    ∷ until_promised message

-- Node 2 starts anew, and node 1 votes and hears of its own vote alone.
abbrev pub until_anew : Submission → List (ℕ × Act)
until_anew message =
    (1, Receives (Voted 1 taken_slot (taken_vote message)))
    ∷ (1, Votes taken_slot (taken_vote message) true)
    ∷ (1, Receives (Propose 1 taken_slot (taken_vote message)))
    ∷ (2, Restarts 0 1)
    ∷ until_stopped message

-- The Propose comes to node 2 again, which votes again; node 1 hears of it and answers the submit_sm.
abbrev pub restart_story : Submission → List (ℕ × Act)
restart_story message =
    (1, Replies 1 first_id Accepted)
    ∷ (1, Receives (Voted 2 taken_slot (taken_vote message)))
    ∷ (2, Votes taken_slot (taken_vote message) true)
    ∷ (2, Receives (Propose 1 taken_slot (taken_vote message)))
    ∷ until_anew message

-- the deed with which it ends
abbrev pub accepting_deed : Deed
accepting_deed = record { node = 1; incarnation = 1; act = Replies 1 first_id Accepted }
