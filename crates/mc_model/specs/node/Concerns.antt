-- What concerns a node of the packets that come to it (own): what one of the nodes sent, if it answers nothing that this node did
-- not ask. A packet that does not concern a node is ignored; in a cluster there is none.
use Rattle.std.specs.Prelude.{◌≡◌, ◌⊎◌, ℕ, ◌<◌, ◌≤◌, Option, Some, None}
use Rattle.mc_model.specs.message.Ids.{incarnation_of, node_of, serial_of}
use Rattle.mc_model.specs.synod.Lists.{In}
use Rattle.mc_model.specs.synod.Packet.{Ask, Packet, Prepare, Promise, Propose, Refused, Slot, Tell, TopVote, Voted, slot_of}
use Rattle.mc_model.specs.node.Actor.{Actor, Waiting, id_in}
use Rattle.mc_model.specs.node.Proposal.{OwnBallot}

-- one of the nodes sent it
pub record IsMember (nodes sender : ℕ) : Type 0 where
  pub least : 1 ≤ sender
  pub most : sender ≤ nodes

-- a message that the node took has a serial that was given
abbrev pub WasGiven : Actor → ℕ → Type 0
WasGiven a id = (incarnation_of id < a.incarnation) ⊎ ((incarnation_of id ≡ a.incarnation) × (serial_of id < a.serial))

-- what is told is told of a message
abbrev pub TellsAbout : Option TopVote → ℕ → Type 0
TellsAbout None id = Unit {0}
TellsAbout (Some told) id = told.id ≡ id

-- a ticket that was given, whose request, while it waits, is about the message of which is told
pub record IsExpected (a : Actor) (ticket : ℕ) (told : Option TopVote) : Type 0 where
  pub given : ticket < a.ticket
  pub about : (waiting : Waiting) → In waiting a.waiting → waiting.ticket ≡ ticket → TellsAbout told (id_in waiting.request)

-- a promise at a ballot of the node was asked for
abbrev pub WasAskedFor : ℕ → Actor → Slot → ℕ → Type 0
WasAskedFor node a slot ballot = OwnBallot node a ballot → In (Prepare node slot ballot) a.sent

abbrev pub Concerns : ℕ → ℕ → Actor → Packet → Type 0
Concerns nodes node a (Promise sender slot ballot report) = IsMember nodes sender × WasAskedFor node a slot ballot
Concerns nodes node a (Voted sender slot vote) =
    IsMember nodes sender × (slot ≡ slot_of slot.id vote.chain) × (node_of slot.id ≡ node → WasGiven a slot.id)
Concerns nodes node a (Tell sender name told) =
    IsMember nodes sender × (name.node ≡ node → name.incarnation ≡ a.incarnation → IsExpected a name.ticket told)
Concerns nodes node a (Prepare sender slot ballot) = IsMember nodes sender
Concerns nodes node a (Propose sender slot vote) = IsMember nodes sender
Concerns nodes node a (Refused sender slot ballot promised) = IsMember nodes sender
Concerns nodes node a (Ask sender id name) = IsMember nodes sender
