-- What acts leave of a node, and what they send.
use Rattle.std.specs.Prelude.{
  ℕ,
  suc,
  ◌+◌,
  max,
  Bool,
  true,
  false,
  ◌==◌,
  not,
  List,
  [],
  ◌∷◌,
  ◌++◌,
  length,
  map,
  filter,
  if◌then◌else◌,
}
use Rattle.mc_model.specs.synod.Packet.{Ask, Packet, Prepare, Promise, Propose, Refused, Tell, Voted}
use Rattle.mc_model.specs.synod.Acceptor.{Records, after_promise, after_vote, with_record}
use Rattle.mc_model.specs.node.Outcome.{Unanswered, no_session_error}
use Rattle.mc_model.specs.node.Actor.{Actor, Cancel, Query, Request, Submit, Waiting, opened}
use Rattle.mc_model.specs.node.Act.{
  Abandons,
  Act,
  Asks,
  Begins,
  Concludes,
  Grants,
  Prepares,
  Promises,
  Proposes,
  Receives,
  Refuses,
  Replies,
  Restarts,
  Settles,
  Stops,
  Tells,
  Ticks,
  Votes,
}

abbrev pub if_sent : Bool → Packet → List Packet
if_sent sent packet = if sent then packet ∷ [] else []

-- the packet that it sends, if any
abbrev pub packets_by : ℕ → Actor → Records → Act → List Packet
packets_by node a records (Promises slot ballot sent) = if_sent sent (Promise node slot ballot (records slot).vote)
packets_by node a records (Votes slot vote sent) = if_sent sent (Voted node slot vote)
packets_by node a records (Refuses slot ballot) = Refused node slot ballot (records slot).promised ∷ []
packets_by node a records (Tells id name told) = Tell node name told ∷ []
packets_by node a records (Prepares slot ballot chain) = Prepare node slot ballot ∷ []
packets_by node a records (Proposes slot vote) = Propose node slot vote ∷ []
packets_by node a records (Asks id ticket) =
    Ask node id (record { node = node; incarnation = a.incarnation; ticket = ticket }) ∷ []
packets_by node a records act = []

abbrev pub records_by : Records → Act → Records
records_by records (Promises slot ballot sent) = with_record records slot (after_promise (records slot) ballot)
records_by records (Votes slot vote sent) = with_record records slot (after_vote vote)
records_by records act = records

abbrev pub next_serial : Request → ℕ → ℕ
next_serial (Submit id message) serial = suc serial
next_serial (Query id account source) serial = serial
next_serial (Cancel id account source destination) serial = serial

abbrev pub settle : ℕ → Waiting → Waiting
settle ticket w = record w { settled = if w.ticket == ticket then true else w.settled }

abbrev pub actor_by : ℕ → Actor → Act → Actor
actor_by node a (Receives packet) = record a { received = packet ∷ a.received }
actor_by node a (Prepares slot ballot chain) = record a {
  sent = Prepare node slot ballot ∷ a.sent;
  offers = record { slot = slot; ballot = ballot; chain = chain } ∷ a.offers;
}
actor_by node a (Proposes slot vote) = record a { sent = Propose node slot vote ∷ a.sent }
actor_by node a (Begins ticket request) = record a {
  serial = next_serial request a.serial;
  ticket = suc a.ticket;
  waiting = a.waiting ++ record { ticket = a.ticket; since = a.clock; request = request; settled = false } ∷ [];
}
actor_by node a (Settles ticket) = record a { waiting = map (settle ticket) a.waiting }
actor_by node a (Replies ticket id answer) = record a { waiting = filter (λ w. not (w.ticket == ticket)) a.waiting }
actor_by node a (Grants slot) = record a { granted = slot ∷ a.granted }
actor_by node a (Concludes slot outcome) = record a { closed = (slot, outcome) ∷ a.closed }
actor_by node a (Abandons slot) = record a { closed = (slot, Unanswered no_session_error) ∷ a.closed }
actor_by node a (Ticks moment) = record a { clock = max a.clock moment; before_tick = length a.sent }
actor_by node a Stops = record a { up = false }
actor_by node a (Restarts lost serial) = opened (suc (a.incarnation + lost)) serial
actor_by node a act = a

-- what an actor and its records become by acts
abbrev pub did : ℕ → Actor → List Act → Actor
did node a [] = a
did node a (newest ∷ older) = actor_by node (did node a older) newest

abbrev pub saved : Records → List Act → Records
saved records [] = records
saved records (newest ∷ older) = records_by (saved records older) newest
