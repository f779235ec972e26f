-- Which acts are due in a step besides those of its input.
use Rattle.std.specs.Prelude.{◌≡◌, ℕ, suc, ◌+◌, ◌≤◌, false, List, Option}
use Rattle.mc_model.specs.message.Ids.{node_of}
use Rattle.mc_model.specs.message.Decree.{Decree}
use Rattle.mc_model.specs.synod.Lists.{In}
use Rattle.mc_model.specs.synod.Acceptor.{Records}
use Rattle.mc_model.specs.node.Actor.{Actor, Cancel, Query, Request, Submit, Waiting, id_in, name_of}
use Rattle.mc_model.specs.node.Room.{IsWaiting}
use Rattle.mc_model.specs.node.Knowledge.{IsKnown, Knows}
use Rattle.mc_model.specs.node.Settling.{IsSettled}
use Rattle.mc_model.specs.node.Replies.{Answer, FitsRequest, IsToldBy, TooLate, longest_wait}
use Rattle.mc_model.specs.node.Act.{Abandons, Act, Asks, Prepares, Proposes, Replies, Reports, Settles}
use Rattle.mc_model.specs.node.Rounds.{IsForRound, MayPrepare}
use Rattle.mc_model.specs.node.FirstRule.{GiveUp, IsFirstRule, Rule}
use Rattle.mc_model.specs.node.Input.{Input, Tick}
use Rattle.mc_model.specs.node.Causes.{Causes, IsAsking, IsCompleted, IsUntold}

abbrev pub IsCancelRequest : Request → Type 0
IsCancelRequest (Submit id message) = ⊥
IsCancelRequest (Query id account source) = ⊥
IsCancelRequest (Cancel id account source destination) = Unit {0}

-- a cancel_sm that waits is to be settled: a majority has told
pub record IsToSettle (nodes node : ℕ) (a : Actor) (ticket : ℕ) : Type 0 where
  pub waiting : Waiting
  pub known : Option (List Decree)
  pub waits : In waiting a.waiting
  pub ticket_is : waiting.ticket ≡ ticket
  pub cancel : IsCancelRequest waiting.request
  pub unsettled : waiting.settled ≡ false
  pub knows : IsKnown nodes a.received (id_in waiting.request) known
  pub settled : IsSettled nodes a.received (name_of node a waiting) known

abbrev pub DueToSettle : ℕ → ℕ → Actor → Act → Type 0
DueToSettle nodes node a (Settles ticket) = IsToSettle nodes node a ticket
DueToSettle nodes node a act = ⊥

-- in a tick, a request that waited too long is answered so
pub record IsTooLate (a : Actor) (ticket id : ℕ) : Type 0 where
  pub asked : IsWaiting a id ticket
  pub late : asked.waiting.since + longest_wait ≤ a.clock

abbrev pub DueToEnd : Input → Actor → Act → Type 0
DueToEnd (Tick moment reach) a (Replies ticket id TooLate) = IsTooLate a ticket id
DueToEnd input a act = ⊥

abbrev pub DueToAsk : ℕ → ℕ → Actor → Actor → Input → Act → Type 0
DueToAsk nodes node before a (Tick moment reach) (Asks id ticket) = IsUntold nodes node a id ticket
DueToAsk nodes node before a input (Asks id ticket) = IsAsking before input id ticket
DueToAsk nodes node before a input act = ⊥

-- in a tick, an attempt is given up that was not granted and whose target is not up
abbrev pub DueToAbandon : ℕ → ℕ → Actor → Records → Input → Act → Type 0
DueToAbandon nodes node a records (Tick moment reach) (Abandons slot) =
    (chain : List Decree) × IsFirstRule nodes node a records reach slot.id (suc slot.place) chain GiveUp
DueToAbandon nodes node a records input act = ⊥

-- a round is started by the first rule of a tick that fits, or by what came
abbrev pub IsStarted : ℕ → ℕ → Actor → Actor → Records → Input → ℕ → ℕ → List Decree → Type 0
IsStarted nodes node before a records (Tick moment reach) id place chain =
    (rule : Rule) × IsFirstRule nodes node a records reach id place chain rule
IsStarted nodes node before a records input id place chain = Causes nodes node before a input id place chain

abbrev pub DueToPrepare : ℕ → ℕ → Actor → Actor → Records → Input → Act → Type 0
DueToPrepare nodes node before a records input (Prepares slot ballot chain) =
    IsStarted nodes node before a records input slot.id slot.place chain × MayPrepare nodes node a records slot ballot
DueToPrepare nodes node before a records input act = ⊥

-- the round that has its promises proposes what they report, or what it is for
abbrev pub DueToPropose : ℕ → ℕ → Actor → Actor → Act → Type 0
DueToPropose nodes node before a (Proposes slot vote) = IsCompleted nodes node before a slot vote.ballot × IsForRound a slot vote
DueToPropose nodes node before a act = ⊥

-- a request that waits is due to be answered by what its node knows
pub record IsDueReply (nodes node : ℕ) (a : Actor) (ticket id : ℕ) (answer : Answer) : Type 0 where
  pub asked : IsWaiting a id ticket
  pub fits : FitsRequest nodes node a asked.waiting asked.waiting.request answer

abbrev pub DueToReply : ℕ → ℕ → Actor → Act → Type 0
DueToReply nodes node a (Replies ticket id answer) = IsDueReply nodes node a ticket id answer
DueToReply nodes node a act = ⊥

-- a receipt is due as the node that the id names learns a chain that ends in its Told of this incarnation
pub record IsDueReport (nodes node : ℕ) (before a : Actor) (id : ℕ) (chain : List Decree) : Type 0 where
  pub named : node_of id ≡ node
  pub known : Knows nodes a.received id chain
  pub told : IsToldBy node a chain
  pub new : Knows nodes before.received id chain → ⊥

abbrev pub DueToReport : ℕ → ℕ → Actor → Actor → Act → Type 0
DueToReport nodes node before a (Reports id chain) = IsDueReport nodes node before a id chain
DueToReport nodes node before a act = ⊥
