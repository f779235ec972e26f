-- What a node of the code keeps, as the node's model says it.
use Rattle.std.specs.Prelude.{◌≡◌, ◌≢◌, ◌≤◌, ◌⊎◌, ℕ, suc, true, List, [], ◌∷◌, map, Option, Some, None}
use Rattle.std.specs.Map.{keys_of}
use Rattle.mc_model.specs.synod.Packet.{Slot, slot_at}
use Rattle.mc_model.specs.synod.Acceptor.{Records, SlotRecord, blank, with_record}
use Rattle.mc_model.specs.node.Actor.{opening_clock}
use Rattle.mc_model.specs.node.Setup.{Setup}
use Rattle.node_model.specs.Message.{Message, unseen}
use Rattle.node_model.specs.Kept.{Kept, message_at}
use Rattle.node_model.specs.Recorded.{AreRecorded}
use Rattle.waiting_requests.specs.Waiting.{held_in}
use Rattle.shelf.specs.Shelved.{value_at}
use Rattle.synod_acceptor.specs.Records.{record_at}
use Rattle.synod_acceptor.specs.Votes.{Record, record_of, slot_recorded}
use Rattle.node_parts.specs.declared.message.Message.{Message as Filed}
use Rattle.node_parts.specs.Messages.{IsOf, message_of}
use Rattle.node_kept.specs.declared.kept.Kept.{Kept as Holding}
use Rattle.node_kept.specs.Queueing.{AreAsked}

abbrev pub acceptor_in : Option Filed → List (Slot × SlotRecord)
acceptor_in None = []
acceptor_in (Some m) = m.acceptor

-- the record of a slot is that of the acceptor of its message
abbrev pub records_of : List (ℕ × Filed) → Records
records_of entries = λ slot. record_at (acceptor_in (value_at entries slot.id)) slot

abbrev pub filed_as : ℕ × Filed → ℕ × Message
filed_as entry = (entry.0, message_of entry.0 entry.1)

abbrev pub kept_of : Holding → Kept
kept_of k = record {
  records = records_of k.messages.entries;
  up = true;
  incarnation = k.incarnation;
  clock = k.clock;
  serial = k.serial;
  ticket = suc k.given;
  held = held_in k.queue;
  messages = map filed_as k.messages.entries;
}

-- each message is one of this node, and was made in this incarnation
abbrev pub AreOf : Setup → ℕ → List (ℕ × Filed) → Type 0
AreOf setup starts [] = Unit {0}
AreOf setup starts (first ∷ others) = IsOf setup.node starts setup.nodes first.0 first.1 × AreOf setup starts others

-- so is each request that waits, and its serials begin at 1
pub record AreOwn (k : Holding) : Type 0 where
  pub each : AreOf k.setup k.incarnation k.messages.entries
  pub asked : AreAsked k.setup.node k.incarnation (suc k.given) (held_in k.queue)
  pub serial : 1 ≤ k.serial

-- this message of its own, with the records that are kept of this id, is as this one of the model
pub record IsAs (k : Holding) (id : ℕ) (m : Filed) (to : Message) : Type 0 where
  pub own : AreOwn k → IsOf k.setup.node k.incarnation k.setup.nodes id m
  pub message : message_of id m ≡ to
  pub records : (place : ℕ) → record_at m.acceptor (slot_at id place) ≡ records_of k.messages.entries (slot_at id place)

-- a message that was taken out of it is what is kept of this id
abbrev pub IsTaken : Holding → ℕ → Filed → Type 0
IsTaken k id m = IsAs k id m (message_at (kept_of k) id)

-- ---- what it keeps when it opens

-- nothing was heard of any message yet
abbrev pub AreUnseen : List (ℕ × Filed) → Type 0
AreUnseen [] = Unit {0}
AreUnseen (first ∷ others) = (message_of first.0 first.1 ≡ unseen) × AreUnseen others

-- it keeps these records and nothing else
pub record IsOpen (with : Setup) (starts : ℕ) (records : Records) (k : Holding) : Type 0 where
  pub setup : k.setup ≡ with
  pub incarnation : k.incarnation ≡ starts
  pub clock : k.clock ≡ opening_clock
  pub serial : k.serial ≡ with.first_serial
  pub given : k.given ≡ 0
  pub held : held_in k.queue ≡ []
  pub kept : (slot : Slot) → records_of k.messages.entries slot ≡ records slot
  pub fresh : AreUnseen k.messages.entries
  pub listed : AreRecorded records (keys_of k.messages.entries)
  pub own : AreOwn k

-- one that keeps no record before keeps these
abbrev pub HasFiled : Records → Holding → Holding → Type 0
HasFiled records old new = (with : Setup) (starts : ℕ) → IsOpen with starts (λ slot. blank) old → IsOpen with starts records new

-- one more record was taken in
pub record IsFiled (old : Holding) (kept : Record) (new : Holding) : Type 0 where
  pub setup : new.setup ≡ old.setup
  pub incarnation : new.incarnation ≡ old.incarnation
  pub clock : new.clock ≡ old.clock
  pub serial : new.serial ≡ old.serial
  pub given : new.given ≡ old.given
  pub held : held_in new.queue ≡ held_in old.queue
  pub records : (slot : Slot) → records_of new.messages.entries slot ≡ with_record (records_of old.messages.entries) (slot_recorded kept) (record_of kept) slot
  pub fresh : AreUnseen old.messages.entries → AreUnseen new.messages.entries
  pub listed : AreRecorded (records_of old.messages.entries) (keys_of old.messages.entries) →
      AreRecorded (records_of new.messages.entries) (keys_of new.messages.entries)
  pub own : AreOwn old → AreOwn new

-- one more record was taken in, unless there was one of its slot
pub record IsFirstFiled (old : Holding) (kept : Record) (new : Holding) : Type 0 where
  pub promised : record_of kept ≢ blank
  pub filed : ((records_of old.messages.entries (slot_recorded kept) ≡ blank) × IsFiled old kept new)
      ⊎ ((records_of old.messages.entries (slot_recorded kept) ≢ blank) × (new ≡ old))
