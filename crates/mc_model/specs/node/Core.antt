-- What an input does by itself. Acts stand with the newest first.
use Rattle.std.specs.Prelude.{◌≡◌, ◌⊎◌, ℕ, ◌<◌, ◌≤◌, true, false, List, [], ◌∷◌, ◌++◌, length, Option}
use Rattle.mc_model.specs.message.Ids.{most_serial}
use Rattle.mc_model.specs.synod.Packet.{Ask, Packet, Prepare, Promise, Propose, Refused, Tell, TopVote, Voted}
use Rattle.mc_model.specs.synod.Acceptor.{IsTold, Records}
use Rattle.mc_model.specs.node.Setup.{Setup}
use Rattle.mc_model.specs.node.Actor.{Actor}
use Rattle.mc_model.specs.node.Room.{is_busy, queue_full, throttled}
use Rattle.mc_model.specs.node.Act.{
  Act,
  Begins,
  Concludes,
  Grants,
  Promises,
  Receives,
  Refuses,
  Restarts,
  Stops,
  Tells,
  Ticks,
  Votes,
}
use Rattle.mc_model.specs.node.Concerns.{Concerns}
use Rattle.mc_model.specs.node.Input.{Arrival, Crash, Delivery, Grant, Input, Refusal, Response, Restart, Tick}

-- what the acceptor answers
abbrev pub AcceptorReplies : Records → Packet → List Act → Type 0
AcceptorReplies records (Prepare sender slot ballot) acts =
    (((records slot).promised < ballot) × (acts ≡ Promises slot ballot true ∷ []))
    ⊎ ((ballot ≤ (records slot).promised) × (acts ≡ Refuses slot ballot ∷ []))
AcceptorReplies records (Propose sender slot vote) acts =
    (((records slot).promised ≤ vote.ballot) × (acts ≡ Votes slot vote true ∷ []))
    ⊎ ((vote.ballot < (records slot).promised) × (acts ≡ Refuses slot vote.ballot ∷ []))
AcceptorReplies records (Ask sender id name) acts =
    (told : Option TopVote) × IsTold records id told × (acts ≡ Tells id name told ∷ [])
AcceptorReplies records (Promise sender slot ballot report) acts = acts ≡ []
AcceptorReplies records (Voted sender slot vote) acts = acts ≡ []
AcceptorReplies records (Refused sender slot ballot promised) acts = acts ≡ []
AcceptorReplies records (Tell sender name told) acts = acts ≡ []

-- what it saves of that, where it stops before it has answered
abbrev pub IsSaved : Records → Packet → List Act → Type 0
IsSaved records (Prepare sender slot ballot) acts =
    (((records slot).promised < ballot) × (acts ≡ Promises slot ballot false ∷ Receives (Prepare sender slot ballot) ∷ []))
    ⊎ ((ballot ≤ (records slot).promised) × (acts ≡ []))
IsSaved records (Propose sender slot vote) acts =
    (((records slot).promised ≤ vote.ballot) × (acts ≡ Votes slot vote false ∷ Receives (Propose sender slot vote) ∷ []))
    ⊎ ((vote.ballot < (records slot).promised) × (acts ≡ []))
IsSaved records packet acts = acts ≡ []

-- a packet that concerns the node is received and answered
pub record IsReceived (records : Records) (packet : Packet) (acts : List Act) : Type 0 where
  pub answer : List Act
  pub answered : AcceptorReplies records packet answer
  pub acts_are : acts ≡ answer ++ Receives packet ∷ []

-- and one that does not is ignored
abbrev pub IsHandled : Type 0 → (List Act → Type 0) → List Act → Type 0
IsHandled Concerned Does acts = (Concerned × Does acts) ⊎ ((Concerned → ⊥) × (acts ≡ []))

-- the node stops, after it has saved
pub record IsStopped (Handled : List Act → Type 0) (acts : List Act) : Type 0 where
  pub before : List Act
  pub handled : Handled before
  pub acts_are : acts ≡ Stops ∷ before

-- a request is refused for want of room, or of serials, only where there is none (own)
pub record IsRefusal (a : Actor) (status : ℕ) : Type 0 where
  pub throttled : status ≡ throttled → is_busy (length a.waiting) a.ticket ≡ true
  pub queue_full : status ≡ queue_full → most_serial < a.serial

abbrev pub IsCore : Setup → Actor → Records → Input → List Act → Type 0
IsCore setup a records (Delivery packet) acts =
    IsHandled (Concerns setup.nodes setup.node a packet) (IsReceived records packet) acts
IsCore setup a records (Crash packet false) acts = acts ≡ Stops ∷ []
IsCore setup a records (Crash packet true) acts =
    IsStopped (IsHandled (Concerns setup.nodes setup.node a packet) (IsSaved records packet)) acts
IsCore setup a records (Arrival request) acts = acts ≡ Begins a.ticket request ∷ []
IsCore setup a records (Refusal status) acts = IsRefusal a status × (acts ≡ [])
IsCore setup a records (Tick moment reach) acts = acts ≡ Ticks moment ∷ []
IsCore setup a records (Grant slot) acts = acts ≡ Grants slot ∷ []
IsCore setup a records (Response slot outcome) acts = acts ≡ Concludes slot outcome ∷ []
IsCore setup a records (Restart lost) acts = acts ≡ Restarts lost setup.first_serial ∷ []
