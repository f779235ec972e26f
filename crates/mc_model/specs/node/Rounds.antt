-- When a node starts a round for a message, with which ballot, and how long it runs.
--
-- A round is one proposal of a node at a ballot of its own: it asks for promises, and once a majority has promised it asks
-- for votes (Paxos Made Simple, 2.2). A node runs one round at a time for a message.
use Rattle.std.specs.Prelude.{◌≡◌, ◌⊎◌, ℕ, pred, ◌+◌, ◌-◌, ◌<◌, ◌≤◌, List, ◌∷◌, ◌++◌, length, take, Option, Some}
use Rattle.mc_model.specs.message.Decree.{Decree}
use Rattle.mc_model.specs.synod.Lists.{In}
use Rattle.mc_model.specs.synod.Majority.{Majority}
use Rattle.mc_model.specs.synod.Ballot.{IsRound, ballot_of, incarnation_in, proposer_of, round_in}
use Rattle.mc_model.specs.synod.OneSlot.{Vote}
use Rattle.mc_model.specs.synod.Packet.{Packet, Prepare, Promise, Refused, Slot}
use Rattle.mc_model.specs.synod.Acceptor.{Records}
use Rattle.mc_model.specs.node.Actor.{Actor}
use Rattle.mc_model.specs.node.Knowledge.{Knows}

-- what a node sent in or since its last tick, the newest first
abbrev pub sent_since_tick : Actor → List Packet
sent_since_tick a = take (length a.sent - a.before_tick) a.sent

-- the round of a message is the newest Prepare for it, in or since the last tick
pub record IsRoundOf (node : ℕ) (a : Actor) (slot : Slot) (ballot : ℕ) : Type 0 where
  pub newer : List Packet
  pub older : List Packet
  pub split : sent_since_tick a ≡ newer ++ Prepare node slot ballot ∷ older
  pub newest : (sender : ℕ) (other : Slot) (above : ℕ) → In (Prepare sender other above) newer → other.id ≡ slot.id → ⊥

-- it is over where it was refused for a greater ballot, or where the known chain reaches its place
pub record IsRefused (a : Actor) (slot : Slot) (ballot : ℕ) : Type 0 where
  pub sender : ℕ
  pub promised : ℕ
  pub heard : In (Refused sender slot ballot promised) a.received
  pub greater : ballot < promised

pub record IsReachedBy (nodes : ℕ) (a : Actor) (slot : Slot) : Type 0 where
  pub chain : List Decree
  pub known : Knows nodes a.received slot.id chain
  pub far : slot.place ≤ pred (length chain)

pub record IsRunning (nodes node : ℕ) (a : Actor) (slot : Slot) (ballot : ℕ) : Type 0 where
  pub round : IsRoundOf node a slot ballot
  pub accepted : IsRefused a slot ballot → ⊥
  pub short : IsReachedBy nodes a slot → ⊥

abbrev pub RunsNone : ℕ → ℕ → Actor → ℕ → Type 0
RunsNone nodes node a id = (slot : Slot) (ballot : ℕ) → slot.id ≡ id → IsRunning nodes node a slot ballot → ⊥

-- the rounds that a node has seen for a slot: of its own record, of refusals of its ballots, and of its own rounds
pub record WasRefusedFor (node : ℕ) (a : Actor) (slot : Slot) (round : ℕ) : Type 0 where
  pub sender : ℕ
  pub ballot : ℕ
  pub promised : ℕ
  pub heard : In (Refused sender slot ballot promised) a.received
  pub proposer : proposer_of ballot ≡ node
  pub incarnation : incarnation_in ballot ≡ a.incarnation
  pub names : round ≡ round_in promised

pub record WasPrepared (node : ℕ) (a : Actor) (slot : Slot) (round : ℕ) : Type 0 where
  pub ballot : ℕ
  pub sent : In (Prepare node slot ballot) a.sent
  pub names : round ≡ round_in ballot

abbrev pub HasSeen : ℕ → Actor → Records → Slot → ℕ → Type 0
HasSeen node a records slot round =
    (round ≡ round_in (records slot).promised) ⊎ (WasRefusedFor node a slot round ⊎ WasPrepared node a slot round)

-- the next round is one above the highest of them
pub record IsNextBallot (node : ℕ) (a : Actor) (records : Records) (slot : Slot) (ballot : ℕ) : Type 0 where
  pub highest : ℕ
  pub seen : HasSeen node a records slot highest
  pub most : (round : ℕ) → HasSeen node a records slot round → round ≤ highest
  pub ballot_is : ballot ≡ ballot_of (highest + 1) a.incarnation node
  pub round : IsRound (highest + 1)

-- a node prepares at that ballot where no round of the message runs
pub record MayPrepare (nodes node : ℕ) (a : Actor) (records : Records) (slot : Slot) (ballot : ℕ) : Type 0 where
  pub none : RunsNone nodes node a slot.id
  pub next : IsNextBallot node a records slot ballot

-- a majority has promised at the ballot of a round
abbrev pub IsPromised : ℕ → Actor → Slot → ℕ → Type 0
IsPromised nodes a slot ballot =
    Majority nodes (λ acceptor. (report : Option Vote) × In (Promise acceptor slot ballot report) a.received)

-- The chain of the highest vote that the promises at a ballot report, or where they report none the one that the round is for.
pub record CarriesReport (a : Actor) (slot : Slot) (vote : Vote) : Type 0 where
  pub acceptor : ℕ
  pub top : Vote
  pub reported : In (Promise acceptor slot vote.ballot (Some top)) a.received
  pub highest : (other : ℕ) (held : Vote) → In (Promise other slot vote.ballot (Some held)) a.received → held.ballot ≤ top.ballot
  pub chain_is : vote.chain ≡ top.chain

pub record IsOffered (a : Actor) (slot : Slot) (vote : Vote) : Type 0 where
  pub offered : In (record { slot = slot; ballot = vote.ballot; chain = vote.chain }) a.offers
  pub unreported : (acceptor : ℕ) (top : Vote) → In (Promise acceptor slot vote.ballot (Some top)) a.received → ⊥

abbrev pub IsForRound : Actor → Slot → Vote → Type 0
IsForRound a slot vote = IsOffered a slot vote ⊎ CarriesReport a slot vote
