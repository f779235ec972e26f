-- A node of the code, and its steps.
use Rattle.std.specs.Prelude.{◌≡◌, ◌≢◌, ◌⊎◌, ℕ, ◌+◌, ◌≤◌, Bool, true, false, ◌||◌, List, [], ◌∷◌, ◌++◌, Option, Some, None, IfSome, map, if◌then◌else◌}
use Rattle.mc_model.specs.synod.Lists.{In}
use Rattle.mc_model.specs.synod.Packet.{Slot}
use Rattle.mc_model.specs.synod.Acceptor.{Records, blank}
use Rattle.mc_model.specs.node.Input.{Delivery}
use Rattle.mc_model.specs.node.Setup.{Setup}
use Rattle.node_model.specs.Outputs.{nothing}
use Rattle.node_model.specs.Recorded.{AreRecorded}
use Rattle.node_model.specs.Stepped.{opened_over, stepped}
use Rattle.stable_store.specs.Stored.{AreSame, GoesOn, HasFailed, KeepsRecords, LeavesNext, LeavesStarted, Stays, Stored}
use Rattle.stable_store.specs.declared.fault.StoreFault.{StoreFault}
use Rattle.stable_store.specs.declared.fault.StoreFault.TheVariants as faults
use Rattle.synod_acceptor.specs.Packets.{packet_of}
use Rattle.synod_acceptor.specs.declared.packet.Packet.{Packet}
use Rattle.synod_acceptor.specs.declared.record.Change.{Change}
use Rattle.node_kept.specs.StepFault.{StepFault}
use Rattle.node_kept.specs.StepFault.TheVariants.{Broken}
use Rattle.node_kept.specs.Input.{Input}
use Rattle.node_kept.specs.Input.TheVariants as given
use Rattle.node_kept.specs.Outputs.{Outputs}
use Rattle.node_kept.specs.Grouping.{Grouped}
use Rattle.node_kept.specs.Messages.{changed_by}
use Rattle.node_kept.specs.declared.kept.Kept.{Kept}
use Rattle.node_kept.specs.declared.stopped.Stopped.{Stopped}
use Rattle.node_kept.specs.Keeping.{AreOwn, kept_of, records_of}
use Rattle.node_kept.specs.Steps.{GrantsKnown, input_of, outputs_of, refused_by}
use Rattle.node_core.specs.declared.life.Life.{Life}
use Rattle.node_core.specs.Pendings.{Awaited}
use Rattle.node_core.specs.Stops.{IsEither, IsUnknown}

-- what it keeps, whether a save failed, its store, the packet whose save failed since it opened, the packets of a group whose save failed, till it is
-- known what of it is stored, and what it tells of the save that failed before it opened
pub record Standing (S : Type 0) : Type 0 where
  pub kept : Kept
  pub broken : Bool
  pub store : S
  pub unfinished : Option Packet
  pub waiting : List Packet
  pub stopped : Option Stopped

-- the same with what is stored
pub record Seen : Type 1 where
  pub kept : Kept
  pub broken : Bool
  pub stored : Stored
  pub unfinished : Option Packet
  pub waiting : List Packet
  pub stopped : Option Stopped

abbrev pub seen : {S : Type 0} → (S → Stored) → Standing S → Seen
seen stored n = record {
  kept = n.kept;
  broken = n.broken;
  stored = stored n.store;
  unfinished = n.unfinished;
  waiting = n.waiting;
  stopped = n.stopped;
}

-- the packets of a group that waits
abbrev pub packets_waiting : Option Grouped → List Packet
packets_waiting None = []
packets_waiting (Some group) = group.packets

-- the records that it keeps
abbrev pub records_in : Kept → Records
records_in k = records_of k.messages.entries

-- nothing of it changed
pub record IsUnmoved (old new : Seen) : Type 0 where
  pub kept : new.kept ≡ old.kept
  pub broken : new.broken ≡ old.broken
  pub stored : Stays old.stored new.stored
  pub unfinished : new.unfinished ≡ old.unfinished
  pub waiting : new.waiting ≡ old.waiting
  pub stopped : new.stopped ≡ old.stopped

-- the change of a step is stored, if it has one
abbrev pub SavesAny : Option Change → Stored → Stored → Type 0
SavesAny change old new = (records : Records) → old.holds records → new.holds (changed_by change records)

-- whoever opens the store after a stop in that save finds what they might have found before, or that change
pub record LeavesAny (change : Option Change) (old new : Stored) : Type 0 where
  pub records : (left : Records) → new.may_hold left →
      old.may_hold left ⊎ ((records : Records) → old.holds records → AreSame left (changed_by change records))
  pub started : LeavesStarted old new

-- The device failed at the save of a step, which is that of a packet: whoever opens the store finds what the node keeps, or what the step
-- leaves. The node keeps what it kept, and the packet is unfinished.
pub record HasStopped (old : Seen) (input : Input) (new : Seen) : Type 0 where
  pub kept : new.kept ≡ old.kept
  pub broken : new.broken ≡ true
  pub found : (left : Records) → new.stored.may_hold left → AreSame left (records_in old.kept) ⊎ AreSame left
      (stepped old.kept.setup (kept_of old.kept) (input_of old.kept.setup (kept_of old.kept) input)).kept.records
  pub started : LeavesStarted old.stored new.stored
  pub packet : Packet
  pub came : input ≡ given.Packet packet
  pub unfinished : new.unfinished ≡ Some packet
  pub waiting : new.waiting ≡ old.waiting
  pub stopped : new.stopped ≡ old.stopped

-- The device failed at the save of a group: whoever opens the store finds what the node keeps, or what the steps of all packets leave together, and nothing
-- between. The node keeps what it kept, and the packets wait till it is known.
pub record HasStoppedAll (old : Seen) (packets : List Packet) (new : Seen) : Type 0 where
  pub kept : new.kept ≡ old.kept
  pub broken : new.broken ≡ true
  pub found : (left : Records) → new.stored.may_hold left → IsEither old.kept left packets
  pub started : LeavesStarted old.stored new.stored
  pub some : packets ≢ []
  pub unfinished : new.unfinished ≡ old.unfinished
  pub waiting : new.waiting ≡ packets
  pub stopped : new.stopped ≡ old.stopped

-- a group that waits was prepared over what is kept, and has a packet
pub record IsPending (k : Kept) (group : Grouped) : Type 0 where
  pub was : group.was ≡ k
  pub some : group.packets ≢ []

-- Its messages are its own, and unless a save failed, its records are those that are stored and no packet is unfinished, nor does a group wait. Whoever opens
-- its store finds what it keeps, or what the step of the packet leaves that is unfinished; or what those of the group leave together that waits.
pub record IsStored (broken : Bool) (stored : Stored) (unfinished : Option Packet) (waiting : Option Grouped) (k : Kept) : Type 0 where
  pub saved : broken ≡ false → stored.holds (records_in k)
  pub own : AreOwn k
  pub finished : broken ≡ false → unfinished ≡ None
  pub settled : broken ≡ false → waiting ≡ None
  pub pending : IfSome waiting (IsPending k)
  pub halted : (left : Records) → stored.may_hold left → IsUnknown k left unfinished (packets_waiting waiting)

-- It opened in this incarnation with these records and nothing else; its messages are those of which there is a record, at whatever place.
pub record HasOpened {S : Type 0} (with : Setup) (records : Records) (starts : ℕ) (node : Standing S) (life : Life) : Type 0 where
  pub ids : List ℕ
  pub kept : kept_of node.kept ≡ opened_over records ids starts with.first_serial
  pub listed : AreRecorded records ids
  pub whole : (slot : Slot) → (records slot ≢ blank) → In slot.id ids
  pub setup : node.kept.setup ≡ with
  pub works : node.broken ≡ false
  pub of_node : life.node ≡ with.node
  pub of_start : life.incarnation ≡ starts

-- a step of this node was prepared, for this input
pub record IsAwaited {S : Type 0} (node : Standing S) (input : Input) (pending : Awaited) : Type 0 where
  pub was : pending.was ≡ node.kept
  pub given : pending.input ≡ input
  pub allowed : refused_by node.kept.setup (kept_of node.kept) input ≡ None

-- why a node does not take a step
abbrev pub fault_in : {S : Type 0} → Standing S → Input → Option StepFault
fault_in node input = if node.broken then Some Broken else refused_by node.kept.setup (kept_of node.kept) input

-- The node took the step of the model, gave out what it gives out, and keeps what it leaves. It is the same node in the same incarnation.
pub record HasTaken {S : Type 0} (old : Standing S) (input : Input) (new : Standing S) (outputs : Outputs) : Type 0 where
  pub kept : kept_of new.kept ≡ (stepped old.kept.setup (kept_of old.kept) (input_of old.kept.setup (kept_of old.kept) input)).kept
  pub given : outputs_of outputs ≡ (stepped old.kept.setup (kept_of old.kept) (input_of old.kept.setup (kept_of old.kept) input)).outputs
  pub allowed : refused_by old.kept.setup (kept_of old.kept) input ≡ None
  pub granted : GrantsKnown (kept_of old.kept) input outputs.granted
  pub setup : new.kept.setup ≡ old.kept.setup
  pub incarnation : new.kept.incarnation ≡ old.kept.incarnation
  pub works : new.broken ≡ false
  pub unfinished : new.unfinished ≡ old.unfinished
  pub waiting : new.waiting ≡ old.waiting
  pub stopped : new.stopped ≡ old.stopped

-- The node took the step of a packet, which gives nothing out, and keeps what it leaves. It is the same node in the same incarnation.
pub record HasTakenQuietly {S : Type 0} (old : Standing S) (packet : Packet) (new : Standing S) : Type 0 where
  pub kept : kept_of new.kept ≡ (stepped old.kept.setup (kept_of old.kept) (Delivery (packet_of packet))).kept
  pub gives : (stepped old.kept.setup (kept_of old.kept) (Delivery (packet_of packet))).outputs ≡ nothing
  pub setup : new.kept.setup ≡ old.kept.setup
  pub incarnation : new.kept.incarnation ≡ old.kept.incarnation
  pub works : new.broken ≡ false
  pub unfinished : new.unfinished ≡ old.unfinished
  pub waiting : new.waiting ≡ old.waiting
  pub stopped : new.stopped ≡ old.stopped

-- ---- several packets, one save

-- the same node, which keeps the same
pub record IsAsBefore {S : Type 0} (old new : Standing S) : Type 0 where
  pub kept : kept_of new.kept ≡ kept_of old.kept
  pub setup : new.kept.setup ≡ old.kept.setup
  pub incarnation : new.kept.incarnation ≡ old.kept.incarnation
  pub broken : new.broken ≡ old.broken
  pub unfinished : new.unfinished ≡ old.unfinished
  pub waiting : new.waiting ≡ old.waiting
  pub stopped : new.stopped ≡ old.stopped

-- the same node in the same incarnation
pub record IsSameNode {S : Type 0} (old new : Standing S) : Type 0 where
  pub setup : new.kept.setup ≡ old.kept.setup
  pub incarnation : new.kept.incarnation ≡ old.kept.incarnation

-- The node took the steps of packets in their order, each from what the one before left, and each gave out what stands in its place. The store of a node
-- between two steps is of no account.
abbrev pub HasTakenAll : {S : Type 0} → Standing S → List Packet → List Outputs → Standing S → Type 0
HasTakenAll old [] [] new = IsAsBefore old new
HasTakenAll old [] (outputs ∷ more) new = ⊥
HasTakenAll old (packet ∷ packets) [] new = ⊥
HasTakenAll {S} old (packet ∷ packets) (outputs ∷ more) new =
    (between : Standing S) × HasTaken old (given.Packet packet) between outputs × HasTakenAll between packets more new

-- each of these was given out by a packet, as it would be by that alone
abbrev pub AreGiven : Kept → List Packet → List Outputs → Type 0
AreGiven k packets outputs = map outputs_of outputs ≡ map (λ packet. (stepped k.setup (kept_of k) (Delivery (packet_of packet))).outputs) packets

-- the node as it would be if no save had failed
abbrev pub unbroken : {S : Type 0} → Standing S → Standing S
unbroken n = record n { broken = false; unfinished = None; waiting = [] }

-- It is known that nothing of a group is stored: the first packet is unfinished.
pub record IsFoundBefore {S : Type 0} (old : Standing S) (outputs : List Outputs) (new : Standing S) : Type 0 where
  pub packet : Packet
  pub others : List Packet
  pub packets : old.waiting ≡ packet ∷ others
  pub gives : outputs ≡ []
  pub kept : new.kept ≡ old.kept
  pub unfinished : new.unfinished ≡ Some packet

-- It is known that all of it is stored: the steps of all packets but the last were taken, and the last is unfinished.
pub record IsFoundAfter {S : Type 0} (old : Standing S) (outputs : List Outputs) (new : Standing S) : Type 0 where
  pub firsts : List Packet
  pub packet : Packet
  pub packets : old.waiting ≡ firsts ++ packet ∷ []
  pub taken : HasTakenAll (unbroken old) firsts outputs (unbroken new)
  pub gives : AreGiven old.kept firsts outputs
  pub unfinished : new.unfinished ≡ Some packet

-- a group that waited does not any more, and the node is as after the save of one packet that failed
pub record HasSettled {S : Type 0} (old : Standing S) (outputs : List Outputs) (new : Standing S) : Type 0 where
  pub found : IsFoundBefore old outputs new ⊎ IsFoundAfter old outputs new
  pub broken : new.broken ≡ true
  pub waiting : new.waiting ≡ []
  pub stopped : new.stopped ≡ old.stopped

-- ---- opening again

-- a life of this node, in its incarnation
pub record IsLifeOf {S : Type 0} (node : Standing S) (life : Life) : Type 0 where
  pub node_is : life.node ≡ node.kept.setup.node
  pub start_is : life.incarnation ≡ node.kept.incarnation

-- What it keeps was found in its store: the records, which it holds, and the incarnation after the one that was stored, which is stored now.
pub record HasFound (old new : Stored) (k : Kept) : Type 0 where
  pub found : new.doubt ≡ 0 → old.may_hold (records_in k)
  pub holds : new.holds (records_in k)
  pub next : (started : ℕ) → new.doubt ≡ 0 → old.has_started started → k.incarnation ≡ started + 1
  pub started : new.has_started k.incarnation
  pub kept : KeepsRecords old new

-- It opened over a store, with what it found there and nothing else.
pub record OpensOver {S : Type 0} (old : Stored) (with : Setup) (new : Stored) (node : Standing S) (life : Life) : Type 0 where
  pub opened : HasOpened with (records_in node.kept) node.kept.incarnation node life
  pub found : HasFound old new node.kept
  pub left : LeavesNext old new
  pub goes_on : GoesOn old new

-- what is stored after a fault of opening: at Incarnations and Memory it is what was
abbrev pub StaysAt : StoreFault → Stored → Stored → Type 0
StaysAt faults.Device old new = Unit {0}
StaysAt faults.Damaged old new = Unit {0}
StaysAt faults.Incarnations old new = Stays old new
StaysAt faults.Memory old new = Stays old new

-- why a node did not open: the device failed; no records that were ever saved are stored, or no incarnation; or all incarnations were used; else for
-- want of memory
abbrev pub IsCaused : StoreFault → Stored → Stored → Type 0
IsCaused faults.Device old new = HasFailed old new
IsCaused faults.Damaged old new = (records : Records) (started : ℕ) → old.holds records → old.has_started started → 1 ≤ new.doubt
IsCaused faults.Incarnations old new = (started : ℕ) → new.doubt ≡ 0 → old.has_started started → 9999 ≤ started
IsCaused faults.Memory old new = Unit {0}

-- what is left of a store over which no node opened
pub record FailsToOpen (fault : StoreFault) (old new : Stored) : Type 0 where
  pub stays : StaysAt fault old new
  pub left : LeavesNext old new
  pub cause : IsCaused fault old new
  pub goes_on : GoesOn old new

-- a fault of the store itself leaves the node broken
abbrev pub breaks : StoreFault → Bool
breaks faults.Device = true
breaks faults.Damaged = true
breaks faults.Incarnations = false
breaks faults.Memory = false

-- the node did not open again
pub record IsLeft (old : Seen) (fault : StoreFault) (new : Seen) : Type 0 where
  pub kept : new.kept ≡ old.kept
  pub broken : new.broken ≡ (old.broken || breaks fault)
  pub stored : FailsToOpen fault old.stored new.stored
  pub unfinished : new.unfinished ≡ old.unfinished
  pub waiting : new.waiting ≡ old.waiting
  pub stopped : new.stopped ≡ old.stopped
