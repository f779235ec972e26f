-- What a node may propose (Paxos Made Simple, 2.2 and 2.5): where a majority of acceptors has promised, the chain of
-- the highest vote that they report; and where they report none, a chain that stands already, or one of its own.
use Rattle.std.specs.Prelude.{◌≡◌, ◌⊎◌, ℕ, ◌<◌, max, true, List, [], ◌∷◌, Option, Some, None}
use Rattle.mc_model.specs.message.Submission.{Submission}
use Rattle.mc_model.specs.message.Decree.{Attempt, Author, Decree, Deleted, Expired, Failed, Fate, Kind, Taken, Undeliverable}
use Rattle.mc_model.specs.message.Chain.{MayExtend, taken_in}
use Rattle.mc_model.specs.synod.Lists.{In}
use Rattle.mc_model.specs.synod.Ballot.{incarnation_in, proposer_of}
use Rattle.mc_model.specs.synod.OneSlot.{IsJustified, Vote, vote_at}
use Rattle.mc_model.specs.synod.Packet.{Packet, Promise, Propose, Slot, slot_of}
use Rattle.mc_model.specs.node.Outcome.{Outcome, decree_of, older_incarnation_error}
use Rattle.mc_model.specs.node.Actor.{Actor, Cancel, Query, Request, Submit, Waiting}

-- the account and the source address are those of the message
pub record IsOwner (message : Submission) (account source : List ℕ) : Type 0 where
  pub same_account : message.submitter ≡ account
  pub same_source : message.source.digits ≡ source

-- so is the destination, where a cancel_sm names one
pub record IsMatch (message : Submission) (account source destination : List ℕ) : Type 0 where
  pub owner : IsOwner message account source
  pub same_destination : (destination ≡ []) ⊎ (message.destination.digits ≡ destination)

-- a request is a cancel_sm of this message
abbrev pub Cancels : Request → ℕ → Submission → Type 0
Cancels (Submit other message) id taken = ⊥
Cancels (Query other account source) id taken = ⊥
Cancels (Cancel other account source destination) id taken = (other ≡ id) × IsMatch taken account source destination

-- a settled cancel_sm of the message waits at the node
pub record IsCancelled (a : Actor) (id : ℕ) (taken : Submission) : Type 0 where
  pub waiting : Waiting
  pub waits : In waiting a.waiting
  pub settled : waiting.settled ≡ true
  pub cancels : Cancels waiting.request id taken

-- The decree on an attempt of the node: what came of it, where the node closed it in this incarnation; and that it
-- failed with error 999, where it was made in an earlier one.
pub record IsClosed (a : Actor) (slot : Slot) (attempted : Author) (next : Kind) : Type 0 where
  pub outcome : Outcome
  pub incarnation : attempted.incarnation ≡ a.incarnation
  pub closed : In (slot, outcome) a.closed
  pub kind : next ≡ decree_of outcome

pub record IsLost (a : Actor) (attempted : Author) (next : Kind) : Type 0 where
  pub incarnation : attempted.incarnation < a.incarnation
  pub kind : next ≡ Failed older_incarnation_error

-- what the node itself needs for a decree behind this one
abbrev pub Allows : Actor → Slot → Submission → Author → Kind → Kind → Type 0
Allows a slot taken attempted (Attempt number) next = IsClosed a slot attempted next ⊎ IsLost a attempted next
Allows a slot taken attempted before (Fate Deleted error) = IsCancelled a slot.id taken
Allows a slot taken attempted before next = Unit {0}

-- the error of a decree that a node makes itself (own): of a message that expires or is deleted there is none, and one that
-- cannot be delivered has the error of its last failure
abbrev pub HasError : Kind → Kind → Type 0
HasError (Failed last) (Fate Undeliverable error) = error ≡ last
HasError before (Fate Expired error) = error ≡ 0
HasError before (Fate Deleted error) = error ≡ 0
HasError before next = Unit {0}

-- the message of a submit_sm that waits at the node is taken
pub record IsFirst (node : ℕ) (a : Actor) (id : ℕ) (chain : List Decree) : Type 0 where
  pub waiting : Waiting
  pub message : Submission
  pub waits : In waiting a.waiting
  pub submits : waiting.request ≡ Submit id message
  pub chain_is : chain ≡ record {
    author = record { node = node; incarnation = a.incarnation };
    moment = waiting.since;
    kind = Taken message;
  } ∷ []

-- A chosen chain has one more decree, by the node in its incarnation, at its clock or at the moment of the newest decree,
-- whichever is later.
pub record IsNext (Chosen : Slot → Vote → Type 0) (node : ℕ) (a : Actor) (id : ℕ) (chain : List Decree) : Type 0 where
  pub next : Decree
  pub newest : Decree
  pub older : List Decree
  pub taken : Submission
  pub ballot : ℕ
  pub chain_is : chain ≡ next ∷ newest ∷ older
  pub chosen : Chosen (slot_of id (newest ∷ older)) (vote_at ballot (newest ∷ older))
  pub author : next.author ≡ record { node = node; incarnation = a.incarnation }
  pub moment : next.moment ≡ max a.clock newest.moment
  pub message : taken_in (newest ∷ older) ≡ Some taken
  pub may : MayExtend (Some taken) (newest ∷ older) next
  pub allowed : Allows a (slot_of id (newest ∷ older)) taken newest.author newest.kind next.kind
  pub error : HasError newest.kind next.kind

abbrev pub IsOwn : (Slot → Vote → Type 0) → ℕ → Actor → ℕ → List Decree → Type 0
IsOwn Chosen node a id chain = IsFirst node a id chain ⊎ IsNext Chosen node a id chain

-- what is free to choose is a chain that stands already, or one of the node's own
abbrev pub IsFree : Option Vote → Type 0 → Type 0 → Type 0
IsFree (Some top) Stands Own = Unit {0}
IsFree None Stands Own = Stands ⊎ Own

abbrev pub OwnBallot : ℕ → Actor → ℕ → Type 0
OwnBallot node a ballot = (proposer_of ballot ≡ node) × (incarnation_in ballot ≡ a.incarnation)

-- By what is seen of packets, which chains stand in a slot, and which are chosen, a node may propose a chain at a ballot.
pub record MayPropose (nodes : ℕ) (Seen : Packet → Type 0) (Stands : Slot → List Decree → Type 0) (Chosen : Slot → Vote → Type 0)
    (node : ℕ) (a : Actor) (slot : Slot) (vote : Vote) : Type 0 where
  pub proposer : proposer_of vote.ballot ≡ node
  pub incarnation : incarnation_in vote.ballot ≡ a.incarnation
  -- once at a ballot
  pub once : (chain : List Decree) → In (Propose node slot (vote_at vote.ballot chain)) a.sent → ⊥
  pub justified : IsJustified nodes (λ acceptor report. Seen (Promise acceptor slot vote.ballot report)) vote.chain
  pub free : IsFree justified.highest (Stands slot vote.chain) ((slot ≡ slot_of slot.id vote.chain)
      × IsOwn Chosen node a slot.id vote.chain)
