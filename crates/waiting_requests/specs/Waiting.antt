-- A request that waits in the code, as the node's model says it (own).
use Rattle.std.specs.Prelude.{◌≡◌, ℕ, List, map, Option, option_map}
use Rattle.mc_model.specs.message.Decree.{Decree}
use Rattle.mc_model.specs.message.Chain.{Chain}
use Rattle.mc_model.specs.synod.Packet.{TopVote}
use Rattle.mc_model.specs.node.Actor.{Cancel, Query, Request, Submit, Waiting}
use Rattle.mc_types.specs.Nodes.{has}
use Rattle.node_model.specs.Kept.{Held}
use Rattle.waiting_requests.specs.declared.request.Request.{Request as Asked}
use Rattle.waiting_requests.specs.declared.request.Request.TheVariants as asked

abbrev pub request_of : Asked → Request
request_of (asked.Submit begun) = Submit begun.id begun.message
request_of (asked.Query id account source) = Query id account source
request_of (asked.Cancel id account source destination) = Cancel id account source destination

-- the message of a submit_sm came when the request began to wait
abbrev pub IsSince : ℕ → Asked → Type 0
IsSince since (asked.Submit begun) = begun.moment ≡ since
IsSince since (asked.Query id account source) = Unit {0}
IsSince since (asked.Cancel id account source destination) = Unit {0}

-- a request that waits, with those who told as the number of a set
pub record Waits : Type 0 where
  pub waiting : Waiting
  pub tellers : ℕ
  pub top : Option TopVote

abbrev pub held_of : Waits → Held
held_of w = record { waiting = w.waiting; tellers = has w.tellers; top = w.top }

abbrev pub held_in : List Waits → List Held
held_in waits = map held_of waits

-- what is known of a message, by its chain
abbrev pub known_of : Option Chain → Option (List Decree)
known_of chain = option_map (λ (known : Chain). known.decrees) chain
