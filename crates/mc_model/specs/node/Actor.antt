-- What a node holds besides its stable records, and loses when it stops.
use Rattle.std.specs.Prelude.{ℕ, Bool, true, List, []}
use Rattle.mc_model.specs.message.Submission.{Submission}
use Rattle.mc_model.specs.message.Decree.{Decree}
use Rattle.mc_model.specs.synod.Packet.{Name, Packet, Slot}
use Rattle.mc_model.specs.node.Outcome.{Outcome}

-- A request that waits: a submit_sm with the id and the message that were made of it, a query_sm and a cancel_sm with the
-- account and the addresses that are compared (SMPP 3.4, 4.4, 4.8 and 4.9).
pub data Request : Type 0 where
  Submit : ℕ → Submission → Request
  -- the message's id, the account, the source address
  Query : ℕ → List ℕ → List ℕ → Request
  -- the message's id, the account, the source address, the destination address
  Cancel : ℕ → List ℕ → List ℕ → List ℕ → Request

-- the message that a request is about
abbrev pub id_in : Request → ℕ
id_in (Submit id message) = id
id_in (Query id account source) = id
id_in (Cancel id account source destination) = id

-- its ticket, the clock when it came, and whether a majority has told how far the message's chain has come
pub record Waiting : Type 0 where
  pub ticket : ℕ
  pub since : ℕ
  pub request : Request
  pub settled : Bool

-- the chain that a node's round at a ballot is for
pub record Offer : Type 0 where
  pub slot : Slot
  pub ballot : ℕ
  pub chain : List Decree

pub record Actor : Type 0 where
  pub up : Bool
  pub incarnation : ℕ
  -- seconds since 1970
  pub clock : ℕ
  -- of the next message, and of the next request
  pub serial : ℕ
  pub ticket : ℕ
  -- every packet that it received in this incarnation, the newest first
  pub received : List Packet
  pub waiting : List Waiting
  -- its Prepares and Proposes in this incarnation, the newest first, and how many of them came before its last tick
  pub sent : List Packet
  pub before_tick : ℕ
  -- for each of its Prepares the chain that the round is for
  pub offers : List Offer
  -- its attempts of this incarnation that were granted, and those that were closed, with what came of them
  pub granted : List Slot
  pub closed : List (Slot × Outcome)

-- the clock of a node from its start on: 2000-01-01T00:00:00Z
abbrev pub opening_clock : ℕ
opening_clock = 946684800

-- a node that starts in an incarnation, with the serial of its first message
abbrev pub opened : ℕ → ℕ → Actor
opened incarnation serial = record {
  up = true;
  incarnation = incarnation;
  clock = opening_clock;
  serial = serial;
  ticket = 1;
  received = [];
  waiting = [];
  sent = [];
  before_tick = 0;
  offers = [];
  granted = [];
  closed = [];
}

-- the name of the questions of a request that waits
abbrev pub name_of : ℕ → Actor → Waiting → Name
name_of node a waiting = record { node = node; incarnation = a.incarnation; ticket = waiting.ticket }
