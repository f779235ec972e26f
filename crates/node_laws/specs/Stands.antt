-- What a node keeps stands for what the actor of the model holds, who remembers all that it received and sent.
use Rattle.std.specs.Prelude.{◌≡◌, ◌↔◌, ◌⊎◌, ℕ, ◌<◌, ◌≤◌, true, false, List, [], ◌∷◌, get_or, length, map, Option, Some, None, IsSome, pred}
use Rattle.std.specs.Ordering.{nat_cmp}
use Rattle.std.specs.Map.{keys_of, lookup}
use Rattle.std.specs.List.Sorted.{IsStrictlyIncreasing, IsStrictlySortedBy}
use Rattle.std.specs.BTreeMap.{is_at}
use Rattle.mc_model.specs.message.Decree.{Decree}
use Rattle.mc_model.specs.message.Chain.{IsPermitted}
use Rattle.mc_model.specs.message.Ids.{IsIncarnation, node_of}
use Rattle.mc_model.specs.synod.Lists.{In}
use Rattle.mc_model.specs.synod.OneSlot.{Vote}
use Rattle.mc_model.specs.synod.Packet.{Ask, Name, Packet, Prepare, Promise, Propose, Refused, Slot, Tell, TopVote, Voted, slot_at, slot_of}
use Rattle.mc_model.specs.node.Outcome.{IsOutcome, Outcome, Unanswered, no_session_error}
use Rattle.mc_model.specs.node.Actor.{Actor, id_in, name_of}
use Rattle.mc_model.specs.node.Alone.{Node, StandsAt}
use Rattle.mc_model.specs.node.Concerns.{WasAskedFor, WasGiven}
use Rattle.mc_model.specs.node.Knowledge.{IsKnown, IsLearned, Knows}
use Rattle.mc_model.specs.node.Phases.{IsDueReply, IsToSettle}
use Rattle.mc_model.specs.node.Proposal.{IsOwn, OwnBallot}
use Rattle.mc_model.specs.node.Replies.{Answer}
use Rattle.mc_model.specs.node.Rules.{IsAttemptBy}
use Rattle.mc_model.specs.node.Rounds.{IsRunning, RunsNone, WasPrepared, WasRefusedFor}
use Rattle.mc_model.specs.node.Settling.{HasTold}
use Rattle.mc_model.specs.node.Setup.{Setup}
use Rattle.node_model.specs.Message.{Message, Round, most_places}
use Rattle.node_model.specs.Kept.{Held, Kept, message_at}
use Rattle.node_model.specs.Requests.{ticket_of}
use Rattle.node_model.specs.Sets.{is_majority}

-- ---- one message

-- The votes that it was told of are those of these packets, and it knows what a node knows to which they came.
pub record HasHeard (nodes : ℕ) (received : List Packet) (id : ℕ) (m : Message) : Type 0 where
  pub votes : (voter : ℕ) (vote : Vote) → (m.votes vote voter ≡ true) ↔ In (Voted voter (slot_of id vote.chain) vote) received
  pub known : IsKnown nodes received id m.known

-- a packet tells of no vote on a message
abbrev pub TellsOfNone : Packet → ℕ → Type 0
TellsOfNone packet id = (voter place : ℕ) (vote : Vote) → Voted voter (slot_at id place) vote ≡ packet → ⊥

-- a packet tells of no vote, no promise, no refusal, and of nothing that was asked
pub record IsAside (packet : Packet) : Type 0 where
  pub votes : (voter : ℕ) (slot : Slot) (vote : Vote) → Voted voter slot vote ≡ packet → ⊥
  pub promises : (acceptor ballot : ℕ) (slot : Slot) (report : Option Vote) → Promise acceptor slot ballot report ≡ packet → ⊥
  pub refusals : (sender ballot promised : ℕ) (slot : Slot) → Refused sender slot ballot promised ≡ packet → ⊥
  pub tells : (teller : ℕ) (name : Name) (told : Option TopVote) → Tell teller name told ≡ packet → ⊥

-- the highest round that it saw for a slot, of its own rounds and of refusals of its ballots; 0 if it saw none
abbrev pub WasSeen : ℕ → Actor → Slot → ℕ → Type 0
WasSeen node a slot round = WasRefusedFor node a slot round ⊎ WasPrepared node a slot round

pub record IsHighestSeen (node : ℕ) (a : Actor) (slot : Slot) (round : ℕ) : Type 0 where
  pub seen : (round ≡ 0) ⊎ WasSeen node a slot round
  pub most : (other : ℕ) → WasSeen node a slot other → other ≤ round

-- the highest vote that was reported in promises at a ballot, if any was
pub record IsTopReport (received : List Packet) (slot : Slot) (ballot : ℕ) (top : Vote) : Type 0 where
  pub reported : (acceptor : ℕ) × In (Promise acceptor slot ballot (Some top)) received
  pub highest : (acceptor : ℕ) (vote : Vote) → In (Promise acceptor slot ballot (Some vote)) received → vote.ballot ≤ top.ballot

abbrev pub IsHighestReport : List Packet → Slot → ℕ → Option Vote → Type 0
IsHighestReport received slot ballot None = (acceptor : ℕ) (vote : Vote) → In (Promise acceptor slot ballot (Some vote)) received → ⊥
IsHighestReport received slot ballot (Some top) = IsTopReport received slot ballot top

-- a chain that is not the first, and does not stand already, goes on from what is known
abbrev pub IsBehind : ℕ → List Packet → ℕ → Type 0 → List Decree → Type 0
IsBehind nodes received id Stood [] = Unit {0}
IsBehind nodes received id Stood (only ∷ []) = Unit {0}
IsBehind nodes received id Stood (next ∷ newest ∷ older) = Stood ⊎ Knows nodes received id (newest ∷ older)

-- A round runs: who promised and what they reported, the chain that it is for, which the node may propose, and that it has proposed
-- nothing before a majority has promised.
pub record IsRound (nodes node : ℕ) (s : Node) (id : ℕ) (r : Round) : Type 0 where
  pub about : r.slot.id ≡ id
  pub running : IsRunning nodes node s.actor r.slot r.ballot
  pub promised : (acceptor : ℕ) → (r.promised acceptor ≡ true) ↔ ((report : Option Vote) × In (Promise acceptor r.slot r.ballot report) s.actor.received)
  pub highest : IsHighestReport s.actor.received r.slot r.ballot r.highest
  pub offered : In (record { slot = r.slot; ballot = r.ballot; chain = r.own }) s.actor.offers
  pub free : StandsAt s r.slot r.own ⊎ ((r.slot ≡ slot_of id r.own) × IsOwn (IsLearned nodes s.actor.received) node s.actor id r.own)
  pub behind : IsBehind nodes s.actor.received id (StandsAt s r.slot r.own) r.own
  pub unproposed : is_majority nodes r.promised ≡ false → (vote : Vote) → vote.ballot ≡ r.ballot → In (Propose node r.slot vote) s.actor.sent → ⊥

abbrev pub IsRoundOf : ℕ → ℕ → Node → ℕ → Option Round → Type 0
IsRoundOf nodes node s id None = RunsNone nodes node s.actor id
IsRoundOf nodes node s id (Some r) = IsRound nodes node s id r

pub record HasAttempts (a : Actor) (id : ℕ) (m : Message) : Type 0 where
  pub granted : (place : ℕ) → (m.granted place ≡ true) ↔ In (slot_at id place) a.granted
  pub closed : (place : ℕ) (outcome : Outcome) → (m.closed place ≡ Some outcome) ↔ In (slot_at id place, outcome) a.closed

-- a chain ends in an attempt of the node in this incarnation
abbrev pub IsOwnAttempt : ℕ → Actor → List Decree → Type 0
IsOwnAttempt node a [] = ⊥
IsOwnAttempt node a (newest ∷ older) = IsAttemptBy node newest × (newest.author.incarnation ≡ a.incarnation)

-- What is known reaches the place of an attempt that was granted, and ends in an attempt of the node while that is the newest decree.
abbrev pub CoversGrant : ℕ → Actor → Option (List Decree) → ℕ → Type 0
CoversGrant node a None place = ⊥
CoversGrant node a (Some chain) place = (place ≤ pred (length chain)) × (place ≡ pred (length chain) → IsOwnAttempt node a chain)

pub record IsMessage (setup : Setup) (s : Node) (id : ℕ) (m : Message) : Type 0 where
  pub heard : HasHeard setup.nodes s.actor.received id m
  pub places : length m.seen ≡ most_places
  pub seen : (place : ℕ) → place < most_places → IsHighestSeen setup.node s.actor (slot_at id place) (get_or m.seen place 0)
  pub round : IsRoundOf setup.nodes setup.node s id m.round
  pub attempts : HasAttempts s.actor id m
  pub covers : (place : ℕ) → In (slot_at id place) s.actor.granted → CoversGrant setup.node s.actor m.known place

-- ---- one request

-- a vote that was told is at a lower place, or at the same one and at no higher ballot
abbrev pub IsBelow : TopVote → TopVote → Type 0
IsBelow told top = (told.place < top.place) ⊎ ((told.place ≡ top.place) × (told.vote.ballot ≤ top.vote.ballot))

-- the highest vote that was told to the questions of a name, if any was
pub record IsTopTold (received : List Packet) (name : Name) (top : TopVote) : Type 0 where
  pub told : (teller : ℕ) × In (Tell teller name (Some top)) received
  pub highest : (teller : ℕ) (other : TopVote) → In (Tell teller name (Some other)) received → IsBelow other top

abbrev pub IsHighestTold : List Packet → Name → Option TopVote → Type 0
IsHighestTold received name None = (teller : ℕ) (other : TopVote) → In (Tell teller name (Some other)) received → ⊥
IsHighestTold received name (Some top) = IsTopTold received name top

pub record IsHeld (received : List Packet) (name : Name) (h : Held) : Type 0 where
  pub tellers : (teller : ℕ) → (h.tellers teller ≡ true) ↔ HasTold received name teller
  pub top : IsHighestTold received name h.top
  pub about : (teller : ℕ) (told : TopVote) → In (Tell teller name (Some told)) received → told.id ≡ id_in h.waiting.request

-- ---- the node

-- votes stand in the slots of their chains, of which each has a place
abbrev pub IsPlaced : Slot → Vote → Type 0
IsPlaced slot vote = (slot ≡ slot_of slot.id vote.chain) × (slot.place < most_places)

-- a vote stands in the slot of its chain, which is permitted
pub record IsCast (slot : Slot) (vote : Vote) : Type 0 where
  pub slot_is : slot ≡ slot_of slot.id vote.chain
  pub permitted : IsPermitted slot.id vote.chain

-- a vote that is told is at one of the places of a chain
abbrev pub IsWithin : Option TopVote → Type 0
IsWithin None = Unit {0}
IsWithin (Some told) = told.place < most_places

-- What holds of a packet that an actor received: a promise at a ballot of its own was asked for, a vote is cast for a permitted
-- chain of a message that was there, and what is told to its questions is told to a ticket that was given.
abbrev pub IsFit : ℕ → Actor → Packet → Type 0
IsFit node a (Promise acceptor slot ballot report) = WasAskedFor node a slot ballot
IsFit node a (Voted voter slot vote) = IsCast slot vote × (node_of slot.id ≡ node → WasGiven a slot.id)
IsFit node a (Tell teller name told) = IsWithin told × (name.node ≡ node → name.incarnation ≡ a.incarnation → name.ticket < a.ticket)
IsFit node a (Prepare sender slot ballot) = Unit {0}
IsFit node a (Propose sender slot vote) = Unit {0}
IsFit node a (Refused sender slot ballot promised) = Unit {0}
IsFit node a (Ask sender id name) = Unit {0}

-- an attempt is closed by an outcome that may come of one, or given up
abbrev pub IsClosing : Outcome → Type 0
IsClosing outcome = IsOutcome outcome ⊎ (outcome ≡ Unanswered no_session_error)

-- what an actor remembers hangs together
pub record IsCoherent (node : ℕ) (a : Actor) : Type 0 where
  pub life : IsIncarnation a.incarnation
  pub ticked : a.before_tick ≤ length a.sent
  pub fits : (packet : Packet) → In packet a.received → IsFit node a packet
  -- it prepared at ballots of its own, and what it proposed it had prepared
  pub own : (slot : Slot) (ballot : ℕ) → In (Prepare node slot ballot) a.sent → OwnBallot node a ballot
  pub prepared : (slot : Slot) (vote : Vote) → In (Propose node slot vote) a.sent → In (Prepare node slot vote.ballot) a.sent
  pub outcomes : (slot : Slot) (outcome : Outcome) → In (slot, outcome) a.closed → IsClosing outcome

-- nothing is due before a step: each request was settled and answered as soon as it could be
pub record IsQuiet (nodes node : ℕ) (a : Actor) : Type 0 where
  pub settled : (ticket : ℕ) → IsToSettle nodes node a ticket → ⊥
  pub answered : (ticket id : ℕ) (answer : Answer) → IsDueReply nodes node a ticket id answer → ⊥

-- what is kept agrees with what the actor remembers
pub record Agrees (setup : Setup) (k : Kept) (s : Node) : Type 0 where
  pub up : k.up ≡ s.actor.up
  pub incarnation : k.incarnation ≡ s.actor.incarnation
  pub clock : k.clock ≡ s.actor.clock
  pub serial : k.serial ≡ s.actor.serial
  pub ticket : k.ticket ≡ s.actor.ticket
  pub records : (slot : Slot) → k.records slot ≡ s.records slot
  pub message : (id : ℕ) → IsMessage setup s id (message_at k id)
  pub waiting : map (λ h. h.waiting) k.held ≡ s.actor.waiting
  pub told : (h : Held) → In h k.held → IsHeld s.actor.received (name_of setup.node s.actor h.waiting) h
  -- tickets rise, and are below the next one
  pub tickets : IsStrictlyIncreasing (map ticket_of k.held)
  pub given : (h : Held) → In h k.held → ticket_of h < k.ticket
  -- each message of which there is a vote is listed, by ascending ids
  pub listed : (slot : Slot) (vote : Vote) → (k.records slot).vote ≡ Some vote → IsSome (lookup (is_at (nat_cmp slot.id)) k.messages)
  pub ascends : IsStrictlySortedBy nat_cmp (keys_of k.messages)
  pub placed : (slot : Slot) (vote : Vote) → (k.records slot).vote ≡ Some vote → IsPlaced slot vote
  -- what the node itself voted for stands, as a chain that was proposed to it, or that it had when it opened
  pub voted : (slot : Slot) (vote : Vote) → (k.records slot).vote ≡ Some vote → StandsAt s slot vote.chain
  pub coherent : IsCoherent setup.node s.actor

pub record Stands (setup : Setup) (k : Kept) (s : Node) : Type 0 where
  pub agrees : Agrees setup k s
  pub quiet : IsQuiet setup.nodes setup.node s.actor
