-- Of which submit_sm that waits a message is taken, and the round for that (own).
use Rattle.std.specs.Prelude.{◌≡◌, ℕ, pred, ◌==◌, List, [], ◌∷◌, length, Option, Some, None, if◌then◌else◌}
use Rattle.std.specs.Option.{option_or}
use Rattle.mc_model.specs.message.Ids.{incarnation_of, node_of}
use Rattle.mc_model.specs.message.Decree.{Decree}
use Rattle.mc_model.specs.message.Chain.{Chain}
use Rattle.mc_model.specs.node.Actor.{Cancel, Query, Request, Submit}
use Rattle.node_model.specs.Kept.{Held}
use Rattle.node_model.specs.Proposer.{Start}
use Rattle.node_model.specs.Requests.{id_of}
use Rattle.waiting_requests.specs.Beginnings.{Begun, begun_chain}

-- the message of a submit_sm that came at a moment
abbrev pub begun_in : ℕ → Request → Option Begun
begun_in since (Submit id message) = Some (record { id = id; moment = since; message = message })
begun_in since (Query id account source) = None
begun_in since (Cancel id account source destination) = None

abbrev pub begun_of : ℕ → Held → Option Begun
begun_of id h = if id_of h == id then begun_in h.waiting.since h.waiting.request else None

abbrev pub first_begun : ℕ → List Held → Option Begun
first_begun id [] = None
first_begun id (h ∷ others) = option_or (begun_of id h) (first_begun id others)

-- each submit_sm got its id from this node in this incarnation
abbrev pub IsNumberedBy : ℕ → ℕ → Request → Type 0
IsNumberedBy node incarnation (Submit id message) = (node_of id ≡ node) × (incarnation_of id ≡ incarnation)
IsNumberedBy node incarnation (Query id account source) = Unit {0}
IsNumberedBy node incarnation (Cancel id account source destination) = Unit {0}

abbrev pub AreNumberedBy : ℕ → ℕ → List Held → Type 0
AreNumberedBy node incarnation [] = Unit {0}
AreNumberedBy node incarnation (h ∷ others) = IsNumberedBy node incarnation h.waiting.request × AreNumberedBy node incarnation others

-- the round for a chain, at its place
abbrev pub start_at : List Decree → Start
start_at chain = record { place = pred (length chain); chain = chain }

abbrev pub start_of : Chain → Start
start_of chain = start_at chain.decrees

abbrev pub begun_start : Begun → Start
begun_start b = start_at (begun_chain b)
