-- What happens to a node by itself, one event after the other, each once the node has settled (own).
use Rattle.std.specs.Prelude.{◌≡◌, ℕ, ◌<◌, Bool, List, [], ◌∷◌, length, None}
use Rattle.mc_model.specs.node.Actor.{Request}
use Rattle.mc_model.specs.node.Input.{Arrival, Grant, Input, Refusal, Response, Tick}
use Rattle.mc_model.specs.node.Outcome.{Outcome}
use Rattle.mc_model.specs.node.Outputs.{Receipt, Reply}
use Rattle.mc_model.specs.node.Reach.{of_all}
use Rattle.mc_model.specs.node.Setup.{Setup}
use Rattle.node_model.specs.Kept.{Kept}
use Rattle.node_model.specs.Stepped.{stepped}
use Rattle.table_laws.specs.Tables.{MayCome, TableNode, chain_at, receipts_by, reply_to, requested}
use Rattle.table_laws.specs.Ticks.{receipts_ticked, ticked}
use Rattle.table_laws.specs.Attempts.{concluded_at, granted_at, newest_slot, receipts_on, refusal_at}
use Rattle.table_laws.specs.Settling.{SettlesOn, begins_with, delivered}

pub data Event : Type 0 where
  Requests : Request → Event
  -- a request is answered at once, with this command_status
  Refuses : ℕ → Event
  -- a moment, and which accounts have a session that may receive
  Ticks : ℕ → (List ℕ → Bool) → Event
  -- the newest attempt of a message is granted, and what came of it
  Grants : ℕ → Event
  Concludes : ℕ → Outcome → Event

-- a submit_sm has the next id, a grant is one that is not refused, and an outcome is of a message that there is
abbrev pub MayHappen : TableNode → Event → Type 0
MayHappen t (Requests request) = MayCome t request
MayHappen t (Refuses status) = Unit {0}
MayHappen t (Ticks moment up) = Unit {0}
MayHappen t (Grants id) = refusal_at t id ≡ None
MayHappen t (Concludes id outcome) = 0 < length (chain_at t.table id)

abbrev pub input_of : TableNode → Event → Input
input_of t (Requests request) = Arrival request
input_of t (Refuses status) = Refusal status
input_of t (Ticks moment up) = Tick moment (of_all up)
input_of t (Grants id) = Grant (newest_slot t id)
input_of t (Concludes id outcome) = Response (newest_slot t id) outcome

-- ---- over the table alone

abbrev pub happened : TableNode → Event → TableNode
happened t (Requests request) = requested t request
happened t (Refuses status) = t
happened t (Ticks moment up) = ticked t moment up
happened t (Grants id) = granted_at t id
happened t (Concludes id outcome) = concluded_at t id outcome

abbrev pub replies_by : TableNode → Event → List Reply
replies_by t (Requests request) = reply_to t request ∷ []
replies_by t (Refuses status) = []
replies_by t (Ticks moment up) = []
replies_by t (Grants id) = []
replies_by t (Concludes id outcome) = []

abbrev pub receipts_of_event : TableNode → Event → List Receipt
receipts_of_event t (Requests request) = receipts_by t request
receipts_of_event t (Refuses status) = []
receipts_of_event t (Ticks moment up) = receipts_ticked t moment up
receipts_of_event t (Grants id) = []
receipts_of_event t (Concludes id outcome) = receipts_on t id outcome

-- each event, the first one first, may happen to what those before it left
abbrev pub MayAllHappen : TableNode → List Event → Type 0
MayAllHappen t [] = Unit {0}
MayAllHappen t (event ∷ events) = MayHappen t event × MayAllHappen (happened t event) events

-- ---- and at the node

-- an event comes to the node, which settles
abbrev pub SettlesBy : Setup → Kept → TableNode → Event → Type 0
SettlesBy setup k t event =
    SettlesOn setup (stepped setup k (input_of t event)) (happened t event) (replies_by t event) (receipts_of_event t event)

-- what the node keeps then
abbrev pub kept_by : (setup : Setup) (k : Kept) (t : TableNode) (event : Event) → SettlesBy setup k t event → Kept
kept_by setup k t event settles = (delivered setup settles.deliveries (begins_with (stepped setup k (input_of t event)))).kept

-- after each event it settles on the table that all events so far have made, and gives out what that table does
abbrev pub RunsAs : Setup → Kept → TableNode → List Event → Type 0
RunsAs setup k t [] = Unit {0}
RunsAs setup k t (event ∷ events) =
    (settles : SettlesBy setup k t event) × RunsAs setup (kept_by setup k t event settles) (happened t event) events
