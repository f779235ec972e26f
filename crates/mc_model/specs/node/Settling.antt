-- How far the chain of a message has come by what others tell to the questions of a request.
use Rattle.std.specs.Prelude.{ℕ, pred, ◌≤◌, List, length, Option, Some, None}
use Rattle.mc_model.specs.message.Decree.{Decree}
use Rattle.mc_model.specs.synod.Lists.{In}
use Rattle.mc_model.specs.synod.Majority.{Majority}
use Rattle.mc_model.specs.synod.Packet.{Name, Packet, Tell, TopVote}
use Rattle.mc_model.specs.node.Actor.{Actor, name_of}
use Rattle.mc_model.specs.node.Room.{IsWaiting}
use Rattle.mc_model.specs.node.Knowledge.{IsKnown}

-- what is told is not beyond what is known
abbrev pub IsReached : Option (List Decree) → Option TopVote → Type 0
IsReached known None = Unit {0}
IsReached None (Some told) = ⊥
IsReached (Some chain) (Some told) = told.place ≤ pred (length chain)

pub record HasTold (received : List Packet) (name : Name) (node : ℕ) : Type 0 where
  pub told : Option TopVote
  pub heard : In (Tell node name told) received

-- A majority has answered the questions of this name, and what is known reaches all that was told.
pub record IsSettled (nodes : ℕ) (received : List Packet) (name : Name) (known : Option (List Decree)) : Type 0 where
  pub majority : Majority nodes (HasTold received name)
  pub reached : (node : ℕ) (told : Option TopVote) → In (Tell node name told) received → IsReached known told

-- what is known goes as far as a place
abbrev pub Covers : Option (List Decree) → ℕ → Type 0
Covers None place = ⊥
Covers (Some chain) place = place ≤ pred (length chain)

-- One of those who told had voted for a chain, and tells of its place or of a higher one.
pub record MeetsVote (received : List Packet) (Voted : ℕ → Type 0) (name : Name) (place : ℕ) : Type 0 where
  pub teller : ℕ
  pub told : TopVote
  pub voted : Voted teller
  pub heard : In (Tell teller name (Some told)) received
  pub far : place ≤ told.place

pub record MaySettle (nodes node : ℕ) (a : Actor) (ticket : ℕ) : Type 0 where
  pub id : ℕ
  pub known : Option (List Decree)
  pub asked : IsWaiting a id ticket
  pub knows : IsKnown nodes a.received id known
  pub settled : IsSettled nodes a.received (name_of node a asked.waiting) known
