-- A step of the code, as a step of the node's model.
use Rattle.std.specs.Prelude.{◌≡◌, ◌≢◌, ℕ, suc, ◌≤◌, ◌+◌, ◌-◌, max, Bool, false, List, [], ◌∷◌, length, map, option_map, Option, Some, None, IfSome, if◌then◌else◌}
use Rattle.std.specs.Box.{box_value}
use Rattle.std.specs.List.{AllByRecursion}
use Rattle.std.specs.Vec.{vec_capacity}
use Rattle.mc_model.specs.message.Chain.{Chain}
use Rattle.mc_model.specs.synod.Packet.{Packet, Slot, slot_of}
use Rattle.mc_model.specs.synod.Acceptor.{Records}
use Rattle.mc_model.specs.node.Input.{Delivery, Grant, Input, Response, Tick}
use Rattle.mc_model.specs.node.Outputs.{Outputs, Receipt}
use Rattle.mc_model.specs.node.Setup.{Setup}
use Rattle.node_model.specs.Attempts.{grant_refusal}
use Rattle.node_model.specs.Kept.{Held, Kept, message_at}
use Rattle.node_model.specs.Outputs.{Stepped, nothing}
use Rattle.node_model.specs.Reported.{receipt_of}
use Rattle.node_model.specs.Stepped.{stepped}
use Rattle.node_model.specs.Granted.{is_open, known_slot}
use Rattle.delivery.specs.Kept.{outcome_kept}
use Rattle.desk.specs.Arrivals.{requested}
use Rattle.pdu_tables.specs.StatusCodes.{status_code}
use Rattle.node_parts.specs.Reaching.{reach_of}
use Rattle.waiting_requests.specs.Replying.{reply_given}
use Rattle.waiting_requests.specs.Waiting.{held_in}
use Rattle.shelf.specs.Shelved.{with_value}
use Rattle.synod_acceptor.specs.Packets.{packet_of}
use Rattle.synod_acceptor.specs.Votes.{record_of, slot_recorded}
use Rattle.synod_acceptor.specs.declared.acceptor.Verdict.{Verdict}
use Rattle.synod_acceptor.specs.declared.packet.Packet.{Packet as Came}
use Rattle.synod_acceptor.specs.declared.record.Change.{Change}
use Rattle.synod_acceptor.specs.declared.room.RecordRoom.{RecordRoom}
use Rattle.node_parts.specs.declared.fault.StepFault.{StepFault}
use Rattle.node_parts.specs.declared.fault.StepFault.TheVariants as faults
use Rattle.node_parts.specs.declared.input.Input.{Input as Given}
use Rattle.node_parts.specs.declared.input.Input.TheVariants as given
use Rattle.node_parts.specs.declared.message.Message.{Message as Filed}
use Rattle.node_parts.specs.declared.message_room.MessageRoom.{MessageRoom}
use Rattle.node_parts.specs.declared.outputs.Outputs.{Outputs as Sent}
use Rattle.node_parts.specs.Attempting.{reason_of}
use Rattle.node_parts.specs.Counting.{IsCountable, recounted_at}
use Rattle.node_parts.specs.Recording.{HasRecordRoom, IsRecordable, id_changed, recorded_at}
use Rattle.node_parts.specs.Living.{Listed}
use Rattle.node_parts.specs.Messages.{changed_by, rested_entry}
use Rattle.node_kept.specs.declared.kept.Kept.{Kept as Holding}
use Rattle.node_kept.specs.declared.queue_change.QueueChange.TheVariants as changes
use Rattle.node_kept.specs.declared.step.Counted.{Counted}
use Rattle.node_kept.specs.declared.step.Next.{Next}
use Rattle.node_kept.specs.declared.step.Put.{Put}
use Rattle.node_kept.specs.declared.step.QuietStep.{QuietStep}
use Rattle.node_kept.specs.declared.step.Step.{Step}
use Rattle.node_kept.specs.Keeping.{AreOf, AreOwn, kept_of, records_of}
use Rattle.node_kept.specs.Queueing.{AreAsked, HasPlace, requeued}

-- What comes to the code, to a node that keeps this. A grant is asked for of the attempt in which the known chain ends.
abbrev pub input_of : Setup → Kept → Given → Input
input_of setup k (given.Packet packet) = Delivery (packet_of packet)
input_of setup k (given.Request account request) = requested setup k account request
input_of setup k (given.Grant id) = Grant (known_slot k id)
input_of setup k (given.Answered slot outcome) = Response slot (outcome_kept outcome)
input_of setup k (given.Tick moment reach) = Tick moment (reach_of reach)

-- why it is refused
abbrev pub refused_by : Setup → Kept → Given → Option StepFault
refused_by setup k (given.Packet packet) = None
refused_by setup k (given.Request account request) = None
refused_by setup k (given.Grant id) = option_map (λ refusal. faults.Grant (reason_of refusal)) (grant_refusal setup k id)
refused_by setup k (given.Answered slot outcome) = if is_open k slot then None else Some faults.NotGranted
refused_by setup k (given.Tick moment reach) = None

-- a step that is not refused fails for want of memory alone
abbrev pub IsFault : Option StepFault → StepFault → Type 0
IsFault None fault = fault ≡ faults.Memory
IsFault (Some refusal) fault = fault ≡ refusal

abbrev pub granted_of : Chain → Slot
granted_of chain = slot_of chain.id chain.decrees

-- what it gives out, receipts by the chains of their messages
abbrev pub outputs_of : Sent → Outputs
outputs_of o = record nothing {
  ticket = o.ticket;
  refused = option_map status_code o.refused;
  packets = map packet_of o.packets.items;
  replies = map reply_given o.replies.items;
  receipts = map receipt_of o.receipts.items;
  granted = option_map granted_of o.granted;
}

-- ---- what a step keeps

-- these messages in the places of what was kept of their ids, the last of them first
abbrev pub entries_after : List (ℕ × Filed) → List Put → List (ℕ × Filed)
entries_after entries [] = entries
entries_after entries (first ∷ others) = with_value (entries_after entries others) first.id (box_value first.message)

abbrev pub rested_if : Bool → List (ℕ × Filed) → List (ℕ × Filed)
rested_if drops entries = if drops then map rested_entry entries else entries

-- with a vote that is counted anew, if one is
abbrev pub counted_if : Option Counted → List (ℕ × Filed) → List (ℕ × Filed)
counted_if None entries = entries
counted_if (Some c) entries = recounted_at entries c.id c.recount

-- the message is kept, and its learner has that count
abbrev pub MayCount : List (ℕ × Filed) → Option Counted → Type 0
MayCount entries None = Unit {0}
MayCount entries (Some c) = IsCountable entries c.id c.recount

-- with a change that is made in what is kept of its message, if there is one
abbrev pub recorded_if : Option Change → List (ℕ × Filed) → List (ℕ × Filed)
recorded_if None entries = entries
recorded_if (Some change) entries = recorded_at entries (id_changed change) change

-- the message is kept, and there is room for its record
abbrev pub MayRecord : List (ℕ × Filed) → Option Change → RecordRoom → Type 0
MayRecord entries None room = Unit {0}
MayRecord entries (Some change) room = IsRecordable entries (id_changed change) change room

-- what is kept of all messages after it, but for the change
abbrev pub entries_before : List (ℕ × Filed) → Next → List (ℕ × Filed)
entries_before entries next = entries_after (rested_if next.drops_rounds (counted_if next.counted entries)) next.messages.items

abbrev pub entries_then : List (ℕ × Filed) → Next → List (ℕ × Filed)
entries_then entries next = recorded_if next.change (entries_before entries next)

-- what is kept after it, but for the requests that wait
abbrev pub installed : Holding → Next → Holding
installed k next = record k {
  clock = next.clock;
  serial = next.serial;
  given = next.given;
  messages = record k.messages { entries = entries_then k.messages.entries next };
}

-- the requests that wait after it, and what is kept with them
abbrev pub held_then : Holding → Next → List Held
held_then k next = requeued k.setup.nodes (held_in k.queue) next.queue

abbrev pub kept_then : Holding → Next → Kept
kept_then k next = record (kept_of (installed k next)) { held = held_then k next }

pub record IsInstalled (old : Holding) (next : Next) (new : Holding) : Type 0 where
  pub setup : new.setup ≡ old.setup
  pub incarnation : new.incarnation ≡ old.incarnation
  pub clock : new.clock ≡ next.clock
  pub serial : new.serial ≡ next.serial
  pub given : new.given ≡ next.given
  pub entries : new.messages.entries ≡ entries_then old.messages.entries next
  pub queue : held_in new.queue ≡ requeued old.setup.nodes (held_in old.queue) next.queue
  pub room : old.messages.room ≤ new.messages.room + length next.messages.items
  pub listings : old.messages.listings ≤ new.messages.listings + length next.messages.items

-- there is room for its messages, and to list them
abbrev pub room_in : Option MessageRoom → ℕ
room_in None = 0
room_in (Some room) = room.shelf

abbrev pub listings_in : Option MessageRoom → ℕ
listings_in None = 0
listings_in (Some room) = vec_capacity room.live

abbrev pub HasRoom : Listed → Next → Type 0
HasRoom kept next =
    (length next.messages.items ≤ max kept.room (room_in next.room - length kept.entries))
    × (length next.messages.items ≤ max kept.listings (listings_in next.room - length kept.entries))

-- they put this message in the place of what is kept of this id, and no other
pub record PutsOne (id : ℕ) (m : Filed) (messages : List Put) : Type 0 where
  pub entries : (entries : List (ℕ × Filed)) → entries_after entries messages ≡ with_value entries id m
  pub ids : AllByRecursion (λ (put : Put). put.id ≡ id) messages
  pub once : length messages ≤ 1

-- this message is to take the place of what is kept of this id, and nothing else changes
pub record IsNext (k : Holding) (id : ℕ) (m : Filed) (next : Next) : Type 0 where
  pub clock : next.clock ≡ k.clock
  pub serial : next.serial ≡ k.serial
  pub given : next.given ≡ k.given
  pub drops : next.drops_rounds ≡ false
  pub queue : next.queue ≡ changes.Same
  pub entries : entries_after (counted_if next.counted k.messages.entries) next.messages.items ≡ with_value k.messages.entries id m
  pub count : MayCount k.messages.entries next.counted
  pub change : next.change ≡ None
  pub room : HasRoom k.messages next

-- what is kept after it is the node's own
pub record AreOwnThen (k : Holding) (next : Next) : Type 0 where
  pub each : AreOf k.setup k.incarnation (installed k next).messages.entries
  pub asked : AreAsked k.setup.node k.incarnation (suc next.given) (held_then k next)
  pub serial : 1 ≤ next.serial

-- a change puts another record in the place of the old one
abbrev pub Alters : Option Change → Records → Type 0
Alters None records = Unit {0}
Alters (Some change) records = record_of change.after ≢ records (slot_recorded change.after)

-- A step of the code is this one: it keeps the same and gives out the same, and once its change is saved, the records that are saved are
-- those that are kept. There is a change only if a record changes.
pub record IsStep (k : Holding) (to : Stepped) (step : Step) : Type 0 where
  pub kept : kept_then k step.next ≡ to.kept
  pub outputs : outputs_of step.outputs ≡ to.outputs
  pub saves : (slot : Slot) → records_of (installed k step.next).messages.entries slot ≡ changed_by step.next.change (records_of k.messages.entries) slot
  pub alters : Alters step.next.change (records_of k.messages.entries)
  pub own : AreOwn k → AreOwnThen k step.next
  pub room : HasRoom k.messages step.next
  pub place : HasPlace k.queue step.next.queue
  pub count : MayCount k.messages.entries step.next.counted
  pub change : MayRecord (entries_before k.messages.entries step.next) step.next.change step.next.records

-- what is given out of an attempt that is granted is the known chain of its message
pub record IsKnown (k : Kept) (id : ℕ) (chain : Chain) : Type 0 where
  pub about : chain.id ≡ id
  pub known : (message_at k id).known ≡ Some chain.decrees

abbrev pub GrantsKnown : Kept → Given → Option Chain → Type 0
GrantsKnown k (given.Packet packet) granted = Unit {0}
GrantsKnown k (given.Request account request) granted = Unit {0}
GrantsKnown k (given.Grant id) granted = IfSome granted (IsKnown k id)
GrantsKnown k (given.Answered slot outcome) granted = Unit {0}
GrantsKnown k (given.Tick moment reach) granted = Unit {0}

-- the step of the model for this input, which is not refused
pub record IsStepFor (k : Holding) (input : Given) (step : Step) : Type 0 where
  pub is : IsStep k (stepped k.setup (kept_of k) (input_of k.setup (kept_of k) input)) step
  pub allowed : refused_by k.setup (kept_of k) input ≡ None
  pub granted : GrantsKnown (kept_of k) input step.outputs.granted

-- there is room for the record of a change in a message, if there is one
abbrev pub HasPlaceFor : Filed → Option Change → RecordRoom → Type 0
HasPlaceFor m None room = Unit {0}
HasPlaceFor m (Some change) room = HasRecordRoom m change room

-- it answers by the verdict of a message, and makes its change, for which there is room
pub record IsAnswer (k : Holding) (m : Filed) (verdict : Verdict) (step : Step) : Type 0 where
  pub outputs : outputs_of step.outputs ≡ record nothing { packets = packet_of verdict.answer ∷ [] }
  pub change : step.next.change ≡ verdict.change
  pub place : HasPlaceFor m verdict.change step.next.records
  pub clock : step.next.clock ≡ k.clock
  pub serial : step.next.serial ≡ k.serial
  pub given : step.next.given ≡ k.given
  pub counted : step.next.counted ≡ None
  pub drops : step.next.drops_rounds ≡ false
  pub queue : step.next.queue ≡ changes.Same

abbrev pub giving : List Packet → List Receipt → Outputs
giving packets receipts = record nothing { packets = packets; receipts = receipts }

-- it counts this vote anew, if there is one, and does nothing else
pub record IsCounting (k : Holding) (counted : Option Counted) (step : Step) : Type 0 where
  pub gives : outputs_of step.outputs ≡ nothing
  pub change : step.next.change ≡ None
  pub clock : step.next.clock ≡ k.clock
  pub serial : step.next.serial ≡ k.serial
  pub given : step.next.given ≡ k.given
  pub counted_is : step.next.counted ≡ counted
  pub drops : step.next.drops_rounds ≡ false
  pub queue : step.next.queue ≡ changes.Same
  pub messages : step.next.messages.items ≡ []

-- it gives this out, saves nothing, and keeps this message
pub record IsLeft (k : Holding) (id : ℕ) (m : Filed) (outputs : Outputs) (step : Step) : Type 0 where
  pub gives : outputs_of step.outputs ≡ outputs
  pub next : IsNext k id m step.next

-- ---- a step that gives nothing out and saves nothing

-- what is kept once this vote is counted anew, if there is one
abbrev pub with_counted : Option Counted → Holding → Holding
with_counted counted k = record k { messages = record k.messages { entries = counted_if counted k.messages.entries } }

-- it is this one
pub record IsQuietStep (k : Holding) (to : Stepped) (quiet : QuietStep) : Type 0 where
  pub kept : kept_of (with_counted quiet.counted k) ≡ to.kept
  pub gives : to.outputs ≡ nothing
  pub records : records_of (counted_if quiet.counted k.messages.entries) ≡ records_of k.messages.entries
  pub own : AreOwn k → AreOwn (with_counted quiet.counted k)
  pub count : MayCount k.messages.entries quiet.counted

-- it is that of this packet, and was taken
pub record IsTakenQuietly (old : Holding) (packet : Came) (new : Holding) : Type 0 where
  pub kept : kept_of new ≡ (stepped old.setup (kept_of old) (Delivery (packet_of packet))).kept
  pub gives : (stepped old.setup (kept_of old) (Delivery (packet_of packet))).outputs ≡ nothing
  pub records : records_of new.messages.entries ≡ records_of old.messages.entries
  pub own : AreOwn new
  pub setup : new.setup ≡ old.setup
  pub incarnation : new.incarnation ≡ old.incarnation
