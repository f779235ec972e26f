-- A run of a node by what it keeps, of any inputs that may come to it.
use Rattle.std.specs.Prelude.{◌≡◌, ℕ, ◌+◌, ◌<◌, ◌≤◌, true, false, List, [], ◌∷◌, length, map, Some, None}
use Rattle.mc_model.specs.message.Decree.{Decree}
use Rattle.mc_model.specs.message.Ids.{IsSerial, id_of, most_serial}
use Rattle.mc_model.specs.message.Neighbours.{IsTaken}
use Rattle.mc_model.specs.message.Submission.{Submission}
use Rattle.mc_model.specs.synod.Packet.{Slot, slot_of}
use Rattle.mc_model.specs.node.Actor.{Cancel, Query, Request, Submit}
use Rattle.mc_model.specs.node.Alone.{AreStepsAlone, Node, OwnStep, own_acts, reached_alone}
use Rattle.mc_model.specs.node.Input.{Arrival, Crash, Delivery, Grant, Input, Refusal, Response, Restart, Tick}
use Rattle.mc_model.specs.node.Outcome.{IsOutcome, Outcome}
use Rattle.mc_model.specs.node.Outputs.{Outputs, outputs_of}
use Rattle.mc_model.specs.node.Room.{is_busy, queue_full, throttled}
use Rattle.mc_model.specs.node.Setup.{Setup}
use Rattle.node_model.specs.Attempts.{grant_refusal}
use Rattle.node_model.specs.Kept.{Kept, author_at, message_at}
use Rattle.node_model.specs.Stepped.{stepped}
use Rattle.node_laws.specs.Stands.{Stands}
use Rattle.node_laws.specs.Steps.{IsWellMade}

-- the node is one of its cluster, which has nine at most
pub record IsOneOf (setup : Setup) : Type 0 where
  pub least : 1 ≤ setup.node
  pub most : setup.node ≤ setup.nodes
  pub few : setup.nodes ≤ 9

-- ---- what may come, by what is kept

-- a submit_sm has the next id, and its message may be taken
pub record IsNextMessage (setup : Setup) (k : Kept) (id : ℕ) (message : Submission) : Type 0 where
  pub serial : IsSerial k.serial
  pub id_is : id ≡ id_of setup.node k.incarnation k.serial
  pub takes : IsTaken id (author_at setup k) k.clock message

abbrev pub IsFitToCome : Setup → Kept → Request → Type 0
IsFitToCome setup k (Submit id message) = IsNextMessage setup k id message
IsFitToCome setup k (Query id account source) = Unit {0}
IsFitToCome setup k (Cancel id account source destination) = Unit {0}

-- an attempt in which the known chain ends, and whose grant is not refused
pub record IsGrantable (setup : Setup) (k : Kept) (slot : Slot) : Type 0 where
  pub chain : List Decree
  pub known : (message_at k slot.id).known ≡ Some chain
  pub place : slot ≡ slot_of slot.id chain
  pub allowed : grant_refusal setup k slot.id ≡ None

-- an attempt that was granted and is not closed
pub record IsOpen (k : Kept) (slot : Slot) (outcome : Outcome) : Type 0 where
  pub granted : (message_at k slot.id).granted slot.place ≡ true
  pub closed : (message_at k slot.id).closed slot.place ≡ None
  pub possible : IsOutcome outcome

-- A packet of any content that is well made, from anybody; a request for which there is room, and a refusal for want of room if there
-- is none; any tick; a grant and an outcome that are allowed; a start, while there is an incarnation left.
abbrev pub MayCome : Setup → Kept → Input → Type 0
MayCome setup k (Delivery packet) = IsWellMade packet
MayCome setup k (Crash packet after) = IsWellMade packet
MayCome setup k (Arrival request) = (is_busy (length k.held) k.ticket ≡ false) × IsFitToCome setup k request
MayCome setup k (Refusal status) =
    (status ≡ throttled → is_busy (length k.held) k.ticket ≡ true) × (status ≡ queue_full → most_serial < k.serial)
MayCome setup k (Tick moment reach) = Unit {0}
MayCome setup k (Grant slot) = IsGrantable setup k slot
MayCome setup k (Response slot outcome) = IsOpen k slot outcome
MayCome setup k (Restart lost) = k.incarnation + lost < 9999

-- to a node that is down nothing comes but a start
abbrev pub IsUpFor : Kept → Input → Type 0
IsUpFor k (Restart lost) = Unit {0}
IsUpFor k input = k.up ≡ true

-- ---- runs, the newest input first

abbrev pub kept_after : Setup → Kept → List Input → Kept
kept_after setup first [] = first
kept_after setup first (newest ∷ older) = (stepped setup (kept_after setup first older) newest).kept

abbrev pub kept_outputs : Setup → Kept → List Input → List Outputs
kept_outputs setup first [] = []
kept_outputs setup first (newest ∷ older) =
    (stepped setup (kept_after setup first older) newest).outputs ∷ kept_outputs setup first older

abbrev pub MayAllCome : Setup → Kept → List Input → Type 0
MayAllCome setup first [] = Unit {0}
MayAllCome setup first (newest ∷ older) =
    IsUpFor (kept_after setup first older) newest × MayCome setup (kept_after setup first older) newest × MayAllCome setup first older

-- what an actor gives out by its steps
abbrev pub own_outputs : Setup → Node → List OwnStep → List Outputs
own_outputs setup first [] = []
own_outputs setup first (newest ∷ older) =
    outputs_of setup.node (reached_alone setup.node first (own_acts older)).actor (reached_alone setup.node first (own_acts older)).records
    newest.input
    newest.acts
    ∷ own_outputs setup first older

-- By steps of the same inputs, which are exact and which it may take by itself, the actor gives out the same, and what is kept then
-- stands for it.
pub record RunsAs (setup : Setup) (first : Kept) (s : Node) (inputs : List Input) : Type 0 where
  pub steps : List OwnStep
  pub inputs_are : map (λ step. step.input) steps ≡ inputs
  pub taken : AreStepsAlone setup s steps
  pub outputs : kept_outputs setup first inputs ≡ own_outputs setup s steps
  pub stands : Stands setup (kept_after setup first inputs) (reached_alone setup.node s (own_acts steps))
