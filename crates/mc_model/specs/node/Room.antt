-- For which requests a node has room, and under which number they wait (own).
use Rattle.std.specs.Prelude.{◌≡◌, ℕ, Bool, false, ◌||◌, nat_le, nat_lt, length}
use Rattle.mc_model.specs.message.Ids.{IsSerial, id_of}
use Rattle.mc_model.specs.message.Submission.{Submission}
use Rattle.mc_model.specs.message.Neighbours.{IsTaken}
use Rattle.mc_model.specs.synod.Lists.{In}
use Rattle.mc_model.specs.node.Actor.{Actor, Cancel, Query, Request, Submit, Waiting, id_in}

-- A node has no room for a request while so many wait, or once it has given its last ticket (own).
abbrev pub most_waiting : ℕ
most_waiting = 1000

abbrev pub last_ticket : ℕ
last_ticket = 18446744073709551615

-- by how many wait, and the next ticket
abbrev pub is_busy : ℕ → ℕ → Bool
is_busy waiting ticket = nat_le most_waiting waiting || nat_lt last_ticket ticket

-- ESME_RTHROTTLED and ESME_RMSGQFUL (SMPP 3.4, 5.1.3), with which a request is refused for want of room, and of a serial
abbrev pub throttled : ℕ
throttled = 0x58

abbrev pub queue_full : ℕ
queue_full = 0x14

-- a submit_sm gets the next id, and its message may be taken
pub record IsNumbered (node : ℕ) (a : Actor) (id : ℕ) (message : Submission) : Type 0 where
  pub serial : IsSerial a.serial
  pub id_is : id ≡ id_of node a.incarnation a.serial
  pub takes : IsTaken id (record { node = node; incarnation = a.incarnation }) a.clock message

abbrev pub IsFitToWait : ℕ → Actor → Request → Type 0
IsFitToWait node a (Submit id message) = IsNumbered node a id message
IsFitToWait node a (Query id account source) = Unit {0}
IsFitToWait node a (Cancel id account source destination) = Unit {0}

-- a request waits under the next ticket where there is room for it
pub record MayWait (node : ℕ) (a : Actor) (ticket : ℕ) (request : Request) : Type 0 where
  pub next : ticket ≡ a.ticket
  pub room : is_busy (length a.waiting) a.ticket ≡ false
  pub fit : IsFitToWait node a request

-- a request for a message waits under a ticket
pub record IsWaiting (a : Actor) (id ticket : ℕ) : Type 0 where
  pub waiting : Waiting
  pub waits : In waiting a.waiting
  pub ticket_is : waiting.ticket ≡ ticket
  pub about : id_in waiting.request ≡ id
