-- What starts a round outside a tick, what is asked, and when a round goes on to propose.
use Rattle.std.specs.Prelude.{◌≡◌, ◌⊎◌, ℕ, true, List, ◌∷◌, Some}
use Rattle.mc_model.specs.message.Submission.{Submission}
use Rattle.mc_model.specs.message.Decree.{Decree, Final, Told}
use Rattle.mc_model.specs.message.Chain.{final_in}
use Rattle.mc_model.specs.synod.Lists.{In}
use Rattle.mc_model.specs.synod.Majority.{Majority}
use Rattle.mc_model.specs.synod.OneSlot.{Vote}
use Rattle.mc_model.specs.synod.Packet.{Name, Slot, Tell, slot_of}
use Rattle.mc_model.specs.node.Outcome.{Outcome, decree_of}
use Rattle.mc_model.specs.node.Actor.{Actor, Cancel, Query, Submit, Waiting, id_in, name_of}
use Rattle.mc_model.specs.node.Knowledge.{Knows}
use Rattle.mc_model.specs.node.Concerns.{Concerns}
use Rattle.mc_model.specs.node.Settling.{HasTold}
use Rattle.mc_model.specs.node.Proposal.{IsFirst}
use Rattle.mc_model.specs.node.Rounds.{IsPromised, IsRunning}
use Rattle.mc_model.specs.node.Rules.{FitsDelete, GoesFurther, IsAhead, IsDue, IsHighest, ToldBy}
use Rattle.mc_model.specs.node.Input.{Arrival, Delivery, Input, Response}

-- A submit_sm comes: its message is to be taken.
abbrev pub CausesTake : Input → ℕ → Actor → ℕ → ℕ → List Decree → Type 0
CausesTake (Arrival (Submit other message)) node a id place chain = (other ≡ id) × (place ≡ 0) × IsFirst node a id chain
CausesTake input node a id place chain = ⊥

-- The outcome of an attempt comes, and the attempt is the newest decree that the node knows: so its decree is due.
pub record IsConcluded (nodes node : ℕ) (a : Actor) (slot : Slot) (outcome : Outcome) (id place : ℕ)
    (chain : List Decree) : Type 0 where
  pub about : slot.id ≡ id
  pub further : GoesFurther nodes node a id place chain (decree_of outcome)
  pub newest : slot ≡ slot_of id (further.newest ∷ further.older)

abbrev pub CausesClose : ℕ → ℕ → Actor → Input → ℕ → ℕ → List Decree → Type 0
CausesClose nodes node a (Response slot outcome) id place chain = IsConcluded nodes node a slot outcome id place chain
CausesClose nodes node a input id place chain = ⊥

-- A majority has told to a request that waits, and shows a vote beyond what the node knows.
pub record ShowsMore (nodes node : ℕ) (a : Actor) (name : Name) (id place : ℕ) (chain : List Decree) : Type 0 where
  pub waiting : Waiting
  pub vote : Vote
  pub waits : In waiting a.waiting
  pub named : name ≡ name_of node a waiting
  pub about : id_in waiting.request ≡ id
  pub majority : Majority nodes (HasTold a.received name)
  pub highest : IsHighest (λ place vote. ToldBy a name id place vote) place vote
  pub ahead : IsAhead nodes a id place
  pub chain_is : chain ≡ vote.chain

-- a Tell that concerns the node comes to such a request
abbrev pub CausesFollow : ℕ → ℕ → Actor → Actor → Input → ℕ → ℕ → List Decree → Type 0
CausesFollow nodes node before a (Delivery (Tell sender name told)) id place chain =
    Concerns nodes node before (Tell sender name told) × ShowsMore nodes node a name id place chain
CausesFollow nodes node before a input id place chain = ⊥

-- a request was settled before
pub record WasSettled (before : Actor) (ticket : ℕ) : Type 0 where
  pub waiting : Waiting
  pub waits : In waiting before.waiting
  pub ticket_is : waiting.ticket ≡ ticket
  pub settled : waiting.settled ≡ true

-- A cancel_sm that may delete the message is settled in this step, or was before and what the node knows has grown.
pub record CausesDelete (nodes node : ℕ) (before a : Actor) (id place : ℕ) (chain : List Decree) : Type 0 where
  pub deletes : FitsDelete nodes node a id place chain
  pub new : WasSettled before deletes.cancelled.waiting.ticket →
      Knows nodes before.received id (deletes.further.newest ∷ deletes.further.older) → ⊥

-- A final state becomes known, of which the node has to tell the receipt.
pub record CausesTold (nodes node : ℕ) (before a : Actor) (id place : ℕ) (chain : List Decree) : Type 0 where
  pub due : IsDue nodes node a id place chain Told
  pub new : (older : List Decree) (final : Final) → Knows nodes before.received id older → final_in older ≡ Some final → ⊥

-- a round is to be started at a place, for a chain
abbrev pub Causes : ℕ → ℕ → Actor → Actor → Input → ℕ → ℕ → List Decree → Type 0
Causes nodes node before a input id place chain =
    CausesTake input node a id place chain
    ⊎ (CausesClose nodes node a input id place chain
    ⊎ (CausesFollow nodes node before a input id place chain
    ⊎ (CausesDelete nodes node before a id place chain
    ⊎ CausesTold nodes node before a id place chain)))

-- ---- questions

-- those of a request that comes
abbrev pub IsAsking : Actor → Input → ℕ → ℕ → Type 0
IsAsking before (Arrival (Query other account source)) id ticket = (other ≡ id) × (ticket ≡ before.ticket)
IsAsking before (Arrival (Cancel other account source destination)) id ticket = (other ≡ id) × (ticket ≡ before.ticket)
IsAsking before input id ticket = ⊥

-- those of a request that lacks a majority of Tells at a tick
pub record IsUntold (nodes node : ℕ) (a : Actor) (id ticket : ℕ) : Type 0 where
  pub waiting : Waiting
  pub waits : In waiting a.waiting
  pub ticket_is : waiting.ticket ≡ ticket
  pub about : id_in waiting.request ≡ id
  pub asks : (message : Submission) → waiting.request ≡ Submit id message → ⊥
  pub lacking : Majority nodes (HasTold a.received (name_of node a waiting)) → ⊥

-- ---- proposals

-- in this step the promises of a running round became a majority
pub record IsCompleted (nodes node : ℕ) (before a : Actor) (slot : Slot) (ballot : ℕ) : Type 0 where
  pub running : IsRunning nodes node a slot ballot
  pub promised : IsPromised nodes a slot ballot
  pub new : IsPromised nodes before slot ballot → ⊥
