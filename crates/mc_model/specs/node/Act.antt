-- The small acts of which all that a node does is made, and what each needs.
use Rattle.std.specs.Prelude.{◌≡◌, ℕ, ◌+◌, ◌<◌, Bool, true, List, Option}
use Rattle.mc_model.specs.message.Decree.{Decree}
use Rattle.mc_model.specs.synod.Lists.{In}
use Rattle.mc_model.specs.synod.OneSlot.{Vote}
use Rattle.mc_model.specs.synod.Packet.{Ask, Name, Packet, Prepare, Propose, Slot, TopVote}
use Rattle.mc_model.specs.synod.Acceptor.{IsTold, MayPromise, MayVote, Records}
use Rattle.mc_model.specs.node.Outcome.{Outcome}
use Rattle.mc_model.specs.node.Actor.{Actor, Request}
use Rattle.mc_model.specs.node.Room.{IsWaiting, MayWait}
use Rattle.mc_model.specs.node.Settling.{MaySettle}
use Rattle.mc_model.specs.node.Proposal.{MayPropose, OwnBallot}
use Rattle.mc_model.specs.node.Replies.{Answer, MayReply, MayReport}
use Rattle.mc_model.specs.node.Grant.{MayConclude, MayGrant}

pub data Act : Type 0 where
  -- a packet comes
  Receives : Packet → Act
  -- the acceptor saves a promise, or a vote, and answers, unless it stops before it has answered
  Promises : Slot → ℕ → Bool → Act
  Votes : Slot → Vote → Bool → Act
  Refuses : Slot → ℕ → Act
  Tells : ℕ → Name → Option TopVote → Act
  -- the proposer asks for promises in a round for a chain, and for votes
  Prepares : Slot → ℕ → List Decree → Act
  Proposes : Slot → Vote → Act
  -- a request comes and waits under a ticket, its questions are asked, it is settled, and it is answered
  Begins : ℕ → Request → Act
  Asks : ℕ → ℕ → Act
  Settles : ℕ → Act
  Replies : ℕ → ℕ → Answer → Act
  -- a receipt goes out
  Reports : ℕ → List Decree → Act
  -- an attempt is granted, it is concluded by its outcome, or it is given up before it is granted
  Grants : Slot → Act
  Concludes : Slot → Outcome → Act
  Abandons : Slot → Act
  -- the clock rises, the node stops, and it starts anew: how many incarnations were lost in starts that failed, and the serial of
  -- its first message
  Ticks : ℕ → Act
  Stops : Act
  Restarts : ℕ → ℕ → Act

-- a promise was asked for, and may be given
pub record MayPromiseAt (a : Actor) (records : Records) (slot : Slot) (ballot : ℕ) : Type 0 where
  pub sender : ℕ
  pub prepared : In (Prepare sender slot ballot) a.received
  pub may : MayPromise (records slot) ballot

pub record MayVoteFor (a : Actor) (records : Records) (slot : Slot) (vote : Vote) : Type 0 where
  pub sender : ℕ
  pub proposed : In (Propose sender slot vote) a.received
  pub may : MayVote (records slot) vote.ballot

-- a question of that name came, for that message
pub record MayTell (a : Actor) (records : Records) (id : ℕ) (name : Name) (told : Option TopVote) : Type 0 where
  pub asker : ℕ
  pub asked : In (Ask asker id name) a.received
  pub told_is : IsTold records id told

-- What an act needs besides that the node is up: by which packets may come, which are seen, which chains stand, and which
-- are chosen.
abbrev pub Needs : ℕ → (Packet → Type 0) → (Packet → Type 0) → (Slot → List Decree → Type 0) → (Slot → Vote → Type 0) → ℕ →
    Actor → Records → Act → Type 0
Needs nodes Comes Seen Stands Chosen node a records (Receives packet) = Comes packet
Needs nodes Comes Seen Stands Chosen node a records (Promises slot ballot sent) = MayPromiseAt a records slot ballot
Needs nodes Comes Seen Stands Chosen node a records (Votes slot vote sent) = MayVoteFor a records slot vote
Needs nodes Comes Seen Stands Chosen node a records (Refuses slot ballot) = Unit {0}
Needs nodes Comes Seen Stands Chosen node a records (Tells id name told) = MayTell a records id name told
Needs nodes Comes Seen Stands Chosen node a records (Prepares slot ballot chain) = OwnBallot node a ballot
Needs nodes Comes Seen Stands Chosen node a records (Proposes slot vote) = MayPropose nodes Seen Stands Chosen node a slot vote
Needs nodes Comes Seen Stands Chosen node a records (Begins ticket request) = MayWait node a ticket request
Needs nodes Comes Seen Stands Chosen node a records (Asks id ticket) = IsWaiting a id ticket
Needs nodes Comes Seen Stands Chosen node a records (Settles ticket) = MaySettle nodes node a ticket
Needs nodes Comes Seen Stands Chosen node a records (Replies ticket id answer) = MayReply nodes node a ticket id answer
Needs nodes Comes Seen Stands Chosen node a records (Reports id chain) = MayReport nodes node a id chain
Needs nodes Comes Seen Stands Chosen node a records (Grants slot) = MayGrant nodes node a slot
Needs nodes Comes Seen Stands Chosen node a records (Concludes slot outcome) = MayConclude a slot outcome
Needs nodes Comes Seen Stands Chosen node a records (Abandons slot) = MayGrant nodes node a slot
Needs nodes Comes Seen Stands Chosen node a records (Ticks moment) = Unit {0}
Needs nodes Comes Seen Stands Chosen node a records Stops = Unit {0}
Needs nodes Comes Seen Stands Chosen node a records (Restarts lost serial) = a.incarnation + lost < 9999

-- a node that is down may only start anew
abbrev pub IsUpFor : Actor → Act → Type 0
IsUpFor a (Restarts lost serial) = Unit {0}
IsUpFor a act = a.up ≡ true
