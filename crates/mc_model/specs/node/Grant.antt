-- When an attempt is granted at a node, and why it is not.
use Rattle.std.specs.Prelude.{◌≡◌, ℕ, List, ◌∷◌}
use Rattle.mc_model.specs.message.Decree.{Attempt, Decree}
use Rattle.mc_model.specs.synod.Lists.{In}
use Rattle.mc_model.specs.synod.Packet.{Slot, slot_of}
use Rattle.mc_model.specs.node.Outcome.{IsOutcome, Outcome}
use Rattle.mc_model.specs.node.Actor.{Actor}
use Rattle.mc_model.specs.node.Knowledge.{Knows}

-- the newest decree of what the node knows is an attempt of its own in this incarnation
pub record IsAttempting (nodes node : ℕ) (a : Actor) (slot : Slot) : Type 0 where
  pub newest : Decree
  pub older : List Decree
  pub number : ℕ
  pub known : Knows nodes a.received slot.id (newest ∷ older)
  pub place : slot ≡ slot_of slot.id (newest ∷ older)
  pub attempt : newest.kind ≡ Attempt number
  pub author : newest.author ≡ record { node = node; incarnation = a.incarnation }

-- it is granted once, and not when it is closed
pub record MayGrant (nodes node : ℕ) (a : Actor) (slot : Slot) : Type 0 where
  pub attempting : IsAttempting nodes node a slot
  pub granted : In slot a.granted → ⊥
  pub closed : (outcome : Outcome) → In (slot, outcome) a.closed → ⊥

-- the outcome of a granted attempt comes once
pub record MayConclude (a : Actor) (slot : Slot) (outcome : Outcome) : Type 0 where
  pub granted : In slot a.granted
  pub closed : (other : Outcome) → In (slot, other) a.closed → ⊥
  pub possible : IsOutcome outcome

-- the chain that the node knows ends in an attempt
pub record EndsInAttempt (nodes : ℕ) (a : Actor) (id : ℕ) (newest : Decree) (older : List Decree) : Type 0 where
  pub number : ℕ
  pub known : Knows nodes a.received id (newest ∷ older)
  pub attempt : newest.kind ≡ Attempt number

pub record IsOwnAttempt (nodes node : ℕ) (a : Actor) (id : ℕ) (newest : Decree) (older : List Decree) : Type 0 where
  pub ends : EndsInAttempt nodes a id newest older
  pub mine : newest.author ≡ record { node = node; incarnation = a.incarnation }

pub record IsAnothers (nodes node : ℕ) (a : Actor) (id : ℕ) : Type 0 where
  pub newest : Decree
  pub older : List Decree
  pub ends : EndsInAttempt nodes a id newest older
  pub other : newest.author.node ≡ node → ⊥

pub record IsOfAnotherLife (nodes node : ℕ) (a : Actor) (id : ℕ) : Type 0 where
  pub newest : Decree
  pub older : List Decree
  pub ends : EndsInAttempt nodes a id newest older
  pub mine : newest.author.node ≡ node
  pub other : newest.author.incarnation ≡ a.incarnation → ⊥

pub record IsGranted (nodes node : ℕ) (a : Actor) (id : ℕ) : Type 0 where
  pub newest : Decree
  pub older : List Decree
  pub own : IsOwnAttempt nodes node a id newest older
  pub granted : In (slot_of id (newest ∷ older)) a.granted

pub record IsClosedAlready (nodes node : ℕ) (a : Actor) (id : ℕ) : Type 0 where
  pub newest : Decree
  pub older : List Decree
  pub outcome : Outcome
  pub own : IsOwnAttempt nodes node a id newest older
  pub granted : In (slot_of id (newest ∷ older)) a.granted → ⊥
  pub closed : In (slot_of id (newest ∷ older), outcome) a.closed

-- The refusals, with their numbers: nothing is known that ends in an attempt; it is another node's; it is of another
-- incarnation, which is an older one; it is granted already; it is closed.
pub data GrantRefusal : Type 0 where
  NotChosen : GrantRefusal
  NotMine : GrantRefusal
  OlderIncarnation : GrantRefusal
  AlreadyGranted : GrantRefusal
  Closed : GrantRefusal

abbrev pub refusal_number : GrantRefusal → ℕ
refusal_number NotChosen = 1
refusal_number NotMine = 2
refusal_number OlderIncarnation = 3
refusal_number AlreadyGranted = 4
refusal_number Closed = 5

abbrev pub IsRefusedFor : ℕ → ℕ → Actor → ℕ → GrantRefusal → Type 0
IsRefusedFor nodes node a id NotChosen = (newest : Decree) (older : List Decree) → EndsInAttempt nodes a id newest older → ⊥
IsRefusedFor nodes node a id NotMine = IsAnothers nodes node a id
IsRefusedFor nodes node a id OlderIncarnation = IsOfAnotherLife nodes node a id
IsRefusedFor nodes node a id AlreadyGranted = IsGranted nodes node a id
IsRefusedFor nodes node a id Closed = IsClosedAlready nodes node a id

-- an attempt of the message may be granted
pub record IsGiven (nodes node : ℕ) (a : Actor) (id : ℕ) : Type 0 where
  pub slot : Slot
  pub about : slot.id ≡ id
  pub may : MayGrant nodes node a slot
