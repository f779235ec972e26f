-- What may happen: a query_sm is answered, and a message is deleted for a cancel_sm.
use Rattle.std.specs.Prelude.{ℕ, List, [], ◌∷◌, ◌++◌, length, map, pred, Some}
use Rattle.mc_model.specs.cluster.World.{Deed}
use Rattle.mc_model.specs.message.Decree.{Decree}
use Rattle.mc_model.specs.message.Submission.{Submission}
use Rattle.mc_model.specs.node.Act.{Act, Receives, Tells, Begins, Asks, Settles, Replies}
use Rattle.mc_model.specs.node.Actor.{Query, Cancel}
use Rattle.mc_model.specs.node.Replies.{Shown, Removed}
use Rattle.mc_model.specs.synod.OneSlot.{vote_at}
use Rattle.mc_model.specs.synod.Packet.{Name, Ask, Tell, TopVote}
use Rattle.mc_laws.specs.Stories.{
  by_node_1,
  deleted_chain,
  delivered_chain,
  delivering_acts,
  first_ballot,
  first_id,
  round_for,
  taken_chain,
  taking_acts,
}

-- the name of the questions of the second request
abbrev pub asking : Name
asking = record { node = 1; incarnation = 1; ticket = 2 }

-- what the node tells where the chain is all that it voted for
abbrev pub told_of : List Decree → TopVote
told_of chain = record { id = first_id; place = pred (length chain); vote = vote_at first_ballot chain }

-- The node alone asks itself how far the message's chain has come, and hears it.
abbrev pub question_for : List Decree → List Act
question_for chain =
    Receives (Tell 1 asking (Some (told_of chain)))
    ∷ Tells first_id asking (Some (told_of chain))
    ∷ Receives (Ask 1 first_id asking)
    ∷ Asks first_id 2
    ∷ []

-- Once the message is delivered a query_sm of its submitter comes, the question is asked, and DELIVERED is shown.
abbrev pub query_acts : Submission → List Act
query_acts message =
    Replies 2 first_id (Shown (delivered_chain message))
    ∷ question_for (delivered_chain message)
    ++ Begins 2 (Query first_id message.submitter message.source.digits)
    ∷ delivering_acts message

abbrev pub query_story : Submission → List (ℕ × Act)
query_story message = map by_node_1 (query_acts message)

-- the deed with which it ends
abbrev pub showing_deed : Submission → Deed
showing_deed message = record { node = 1; incarnation = 1; act = Replies 2 first_id (Shown (delivered_chain message)) }

-- Once the message is taken a cancel_sm of its submitter comes, the question is asked, the request is settled, the message is
-- deleted, and the cancel_sm is answered ESME_ROK.
abbrev pub cancel_acts : Submission → List Act
cancel_acts message =
    Replies 2 first_id (Removed (deleted_chain message))
    ∷ round_for (deleted_chain message)
    ++ Settles 2
    ∷ question_for (taken_chain message)
    ++ Begins 2 (Cancel first_id message.submitter message.source.digits [])
    ∷ taking_acts message

abbrev pub cancel_story : Submission → List (ℕ × Act)
cancel_story message = map by_node_1 (cancel_acts message)

-- the deed with which it ends
abbrev pub removing_deed : Submission → Deed
removing_deed message = record { node = 1; incarnation = 1; act = Replies 2 first_id (Removed (deleted_chain message)) }
