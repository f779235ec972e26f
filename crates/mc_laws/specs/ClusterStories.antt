-- Steps of a cluster: one node alone takes a message, by itself, and the submit_sm is answered.
use Rattle.std.specs.Prelude.{List, [], ◌∷◌, ◌++◌, true, None}
use Rattle.mc_model.specs.message.Submission.{Submission}
use Rattle.mc_model.specs.synod.Packet.{Packet, Prepare, Promise, Propose, Voted}
use Rattle.mc_model.specs.node.Actor.{Submit}
use Rattle.mc_model.specs.node.Replies.{Accepted}
use Rattle.mc_model.specs.node.Act.{Act, Promises, Proposes, Receives, Replies, Votes}
use Rattle.mc_model.specs.node.Input.{Arrival, Delivery}
use Rattle.mc_model.specs.cluster.Steps.{Cluster, Step}
use Rattle.mc_laws.specs.Stories.{first_ballot, first_id, first_step, taken_slot, taken_vote}

-- a cluster of one node, whose messages are counted from 1 and are valid for three days
abbrev pub lone : Cluster
lone = record { nodes = 1; serials = λ node. 1; validities = λ node. 259200 }

-- what comes to the node, and what it does then
abbrev pub step_of : Packet → List Act → Step
step_of packet answer = record { node = 1; input = Delivery packet; acts = answer ++ Receives packet ∷ [] }

abbrev pub begun_steps : Submission → List Step
begun_steps message = record { node = 1; input = Arrival (Submit first_id message); acts = first_step message } ∷ []

abbrev pub promised_steps : Submission → List Step
promised_steps message =
    step_of (Prepare 1 taken_slot first_ballot) (Promises taken_slot first_ballot true ∷ []) ∷ begun_steps message

abbrev pub proposed_steps : Submission → List Step
proposed_steps message =
    step_of (Promise 1 taken_slot first_ballot None) (Proposes taken_slot (taken_vote message) ∷ []) ∷ promised_steps message

abbrev pub voted_steps : Submission → List Step
voted_steps message =
    step_of (Propose 1 taken_slot (taken_vote message)) (Votes taken_slot (taken_vote message) true ∷ []) ∷ proposed_steps message

-- the newest step stands first
abbrev pub taking_steps : Submission → List Step
taking_steps message = step_of (Voted 1 taken_slot (taken_vote message)) (Replies 1 first_id Accepted ∷ []) ∷ voted_steps message
