-- Steps that are prepared over what is kept, each for another message, to be saved together.
use Rattle.std.specs.Prelude.{◌≡◌, ℕ, ◌+◌, ◌-◌, ◌≤◌, ◌==◌, ◌≢◌, ◌⊎◌, max, nat_le, Bool, IsSome, false, if◌then◌else◌}
use Rattle.std.specs.Prelude.{List, [], ◌∷◌, ◌++◌, length, map, Option, Some, None}
use Rattle.std.specs.Global.{Vec}
use Rattle.std.specs.List.{AllByRecursion, list_any}
use Rattle.std.specs.List.Sorted.{IsStrictlySortedBy}
use Rattle.std.specs.Map.{keys_of}
use Rattle.std.specs.Ordering.{nat_cmp}
use Rattle.std.specs.Vec.{vec_capacity}
use Rattle.mc_model.specs.synod.Acceptor.{Records}
use Rattle.mc_model.specs.synod.Lists.{In}
use Rattle.mc_model.specs.synod.Packet.{Ask, Packet, Prepare, Promise, Propose, Refused, Slot, Tell, Voted}
use Rattle.mc_model.specs.node.Input.{Delivery}
use Rattle.mc_model.specs.node.Setup.{Setup}
use Rattle.node_model.specs.Kept.{Kept}
use Rattle.node_model.specs.Outputs.{Stepped}
use Rattle.node_model.specs.Packets.{is_member}
use Rattle.node_model.specs.Stepped.{stepped}
use Rattle.shelf.specs.Shelved.{value_at}
use Rattle.synod_acceptor.specs.Packets.{packet_of}
use Rattle.synod_acceptor.specs.declared.packet.Packet.{Packet as Sent}
use Rattle.synod_acceptor.specs.declared.record.Change.{Change}
use Rattle.node_parts.specs.declared.message_room.MessageRoom.{MessageRoom}
use Rattle.node_parts.specs.declared.outputs.Outputs.{Outputs as Given}
use Rattle.node_parts.specs.Lists.{listed}
use Rattle.node_parts.specs.Living.{Listed}
use Rattle.node_parts.specs.Messages.{changed_by}
use Rattle.node_parts.specs.Recording.{id_changed}
use Rattle.node_kept.specs.declared.grouped_step.GroupedStep.{GroupedStep}
use Rattle.node_kept.specs.declared.join_fault.JoinFault.{JoinFault}
use Rattle.node_kept.specs.declared.join_fault.JoinFault.TheVariants as faults
use Rattle.node_kept.specs.declared.kept.Kept.{Kept as Holding}
use Rattle.node_kept.specs.declared.queue_change.QueueChange.TheVariants.{Same}
use Rattle.node_kept.specs.declared.step.Next.{Next}
use Rattle.node_kept.specs.declared.step.Put.{Put}
use Rattle.node_kept.specs.declared.step.Step.{Step}
use Rattle.node_kept.specs.Keeping.{AreOwn, kept_of, records_of}
use Rattle.node_kept.specs.Steps.{HasRoom, IsStep, listings_in, outputs_of, room_in}

-- ---- which packets join a group

-- a Prepare or a Propose of a node of the cluster asks that something is saved of a message
abbrev pub asked_by : Setup → ℕ → Slot → Option ℕ
asked_by setup sender slot = if is_member setup sender then Some slot.id else None

abbrev pub asked_in : Setup → Packet → Option ℕ
asked_in setup (Prepare sender slot ballot) = asked_by setup sender slot
asked_in setup (Propose sender slot vote) = asked_by setup sender slot
asked_in setup (Promise sender slot ballot report) = None
asked_in setup (Voted sender slot vote) = None
asked_in setup (Refused sender slot ballot promised) = None
asked_in setup (Ask sender id name) = None
asked_in setup (Tell sender name told) = None

abbrev pub is_of : ℕ → Option ℕ → Bool
is_of id None = false
is_of id (Some other) = other == id

-- one of these packets asks it of this message
abbrev pub is_asked_in : Setup → List Sent → ℕ → Bool
is_asked_in setup packets id = list_any (λ packet. is_of id (asked_in setup (packet_of packet))) packets

abbrev pub most_grouped : ℕ
most_grouped = 64

-- what was kept when they were prepared, the packets in their order, and what is to be saved
pub record Grouped : Type 0 where
  pub was : Holding
  pub packets : List Sent
  pub changes : List Change

-- why a packet does not join a group: of several reasons the first
abbrev pub joins_unless : Grouped → Option ℕ → Option JoinFault
joins_unless group None = Some faults.Alone
joins_unless group (Some id) =
    if is_asked_in group.was.setup group.packets id then Some faults.SameMessage
    else if nat_le most_grouped (length group.packets) then Some faults.Full else None

abbrev pub join_fault : Grouped → Sent → Option JoinFault
join_fault group packet = joins_unless group (asked_in group.was.setup (packet_of packet))

-- the records that the step of a packet leaves
abbrev pub left_by : Holding → Sent → Records
left_by k packet = (stepped k.setup (kept_of k) (Delivery (packet_of packet))).kept.records

-- one that may join does not if its step leaves the records as they are, or for want of memory
abbrev pub IsJoinFault : Holding → Sent → Option JoinFault → JoinFault → Type 0
IsJoinFault k packet None fault = ((fault ≡ faults.Idle) × (left_by k packet ≡ records_of k.messages.entries)) ⊎ (fault ≡ faults.Memory)
IsJoinFault k packet (Some refusal) fault = fault ≡ refusal

-- one more packet waits, with what its step saves
pub record HasJoined (old : Grouped) (packet : Sent) (new : Grouped) : Type 0 where
  pub was : new.was ≡ old.was
  pub packets : new.packets ≡ old.packets ++ packet ∷ []
  pub change : Change
  pub changes : new.changes ≡ old.changes ++ change ∷ []

-- ---- what is kept once they are taken

-- it took the step of a packet, and gave this out
pub record HasStepped (old : Holding) (packet : Sent) (given : Given) (new : Holding) : Type 0 where
  pub kept : kept_of new ≡ (stepped old.setup (kept_of old) (Delivery (packet_of packet))).kept
  pub gives : outputs_of given ≡ (stepped old.setup (kept_of old) (Delivery (packet_of packet))).outputs
  pub setup : new.setup ≡ old.setup
  pub incarnation : new.incarnation ≡ old.incarnation

-- the same is kept
pub record IsSame (old new : Holding) : Type 0 where
  pub kept : kept_of new ≡ kept_of old
  pub setup : new.setup ≡ old.setup
  pub incarnation : new.incarnation ≡ old.incarnation

-- it took the steps of packets in their order, each from what the one before left, and each gave out what stands in its place
abbrev pub HasSteppedAll : Holding → List Sent → List Given → Holding → Type 0
HasSteppedAll old [] [] new = IsSame old new
HasSteppedAll old [] (given ∷ more) new = ⊥
HasSteppedAll old (packet ∷ packets) [] new = ⊥
HasSteppedAll old (packet ∷ packets) (given ∷ more) new =
    (between : Holding) × HasStepped old packet given between × HasSteppedAll between packets more new

-- what the steps of packets leave together, in their order
abbrev pub kept_after_all : Setup → Kept → List Sent → Kept
kept_after_all setup k [] = k
kept_after_all setup k (packet ∷ packets) = kept_after_all setup (stepped setup k (Delivery (packet_of packet))).kept packets

abbrev pub left_by_all : Holding → List Sent → Records
left_by_all k packets = (kept_after_all k.setup (kept_of k) packets).records

-- the step of each leaves other records than those before it
abbrev pub ChangesEach : Setup → Kept → List Sent → Type 0
ChangesEach setup k [] = Unit {0}
ChangesEach setup k (packet ∷ packets) =
    ((stepped setup k (Delivery (packet_of packet))).kept.records ≢ k.records)
    × ChangesEach setup (stepped setup k (Delivery (packet_of packet))).kept packets

-- the records after several changes, in their order
abbrev pub changed_by_all : List Change → Records → Records
changed_by_all [] records = records
changed_by_all (change ∷ more) records = changed_by_all more (changed_by (Some change) records)

-- ---- a step for one message (own)

-- only what is kept of this message changes, which is put at most once
pub record IsOfOne (id : ℕ) (k : Holding) (next : Next) : Type 0 where
  pub clock : next.clock ≡ k.clock
  pub serial : next.serial ≡ k.serial
  pub given : next.given ≡ k.given
  pub counted : next.counted ≡ None
  pub drops : next.drops_rounds ≡ false
  pub queue : next.queue ≡ Same
  pub puts : AllByRecursion (λ (put : Put). put.id ≡ id) next.messages.items
  pub once : length next.messages.items ≤ 1
  pub changes : AllByRecursion (λ change. id_changed change ≡ id) (listed next.change)

-- the same is kept of a message, by the same node at the same clock
pub record IsAlike (id : ℕ) (k other : Holding) : Type 0 where
  pub setup : other.setup ≡ k.setup
  pub incarnation : other.incarnation ≡ k.incarnation
  pub clock : other.clock ≡ k.clock
  pub serial : other.serial ≡ k.serial
  pub given : other.given ≡ k.given
  pub message : value_at other.messages.entries id ≡ value_at k.messages.entries id
  pub ascend : IsStrictlySortedBy nat_cmp (keys_of other.messages.entries)

-- a step with this room in place of its own
abbrev pub roomed : Step → Option MessageRoom → Step
roomed step room = record step { next = record step.next { room = room } }

-- It is the model's step for one message, whatever is kept of others, if there is room for it.
pub record IsAlone (id : ℕ) (k : Holding) (to : Setup → Kept → Stepped) (step : Step) : Type 0 where
  pub of : IsOfOne id k step.next
  pub is : (other : Holding) → IsAlike id k other → (room : Option MessageRoom) → HasRoom other.messages (roomed step room).next →
      IsStep other (to other.setup (kept_of other)) (roomed step room)

-- ---- the steps of a group (own)

-- one of them, without room of its own; its change waits with those of the others
pub record IsGrouped (k : Holding) (s : GroupedStep) : Type 0 where
  pub asked : asked_in k.setup (packet_of s.packet) ≡ Some s.id
  pub alone : IsAlone s.id k (λ setup kept. stepped setup kept (Delivery (packet_of s.packet))) s.whole.value
  pub next : s.next ≡ record s.whole.value.next { room = None; change = None }
  pub saves : IsSome s.whole.value.next.change

-- none of them is for this message
abbrev pub AreOfOthers : ℕ → List GroupedStep → Type 0
AreOfOthers id steps = (s : GroupedStep) → In s steps → s.id ≡ id → ⊥

abbrev pub AreGrouped : Holding → List GroupedStep → Type 0
AreGrouped k [] = Unit {0}
AreGrouped k (first ∷ others) = IsGrouped k first × AreOfOthers first.id others × AreGrouped k others

abbrev pub packets_in : List GroupedStep → List Sent
packets_in steps = map (λ (s : GroupedStep). s.packet) steps

abbrev pub outputs_in : List GroupedStep → List Given
outputs_in steps = map (λ (s : GroupedStep). s.whole.value.outputs) steps

abbrev pub changes_in : List GroupedStep → List Change
changes_in [] = []
changes_in (first ∷ others) = listed first.whole.value.next.change ++ changes_in others

-- the change of a step is the first of these
abbrev pub StartsWith : GroupedStep → List Change → Type 0
StartsWith s changes = (others : List Change) × (changes ≡ listed s.whole.value.next.change ++ others)

-- there is room for so many messages, if this is made
pub record IsRoomFor (number : ℕ) (kept : Listed) (room : Option MessageRoom) : Type 0 where
  pub shelf : number ≤ max kept.room (room_in room - length kept.entries)
  pub lists : number ≤ max kept.listings (listings_in room - length kept.entries)

-- what waits to be saved together, with room for all that may join
pub record IsGroup (k : Holding) (steps : Vec GroupedStep) (outputs : Vec Given) (changes : Vec Change) (room : MessageRoom) : Type 0 where
  pub ascend : IsStrictlySortedBy nat_cmp (keys_of k.messages.entries)
  pub steps_are : AreGrouped k steps.items
  pub outputs_are : outputs.items ≡ outputs_in steps.items
  pub changes_are : changes.items ≡ changes_in steps.items
  pub few : length steps.items ≤ most_grouped
  pub for_steps : most_grouped ≤ vec_capacity steps
  pub for_outputs : most_grouped ≤ vec_capacity outputs
  pub for_changes : most_grouped ≤ vec_capacity changes
  pub for_messages : IsRoomFor most_grouped k.messages (Some room)

-- one of them is taken, and as much is kept of all others as before
pub record HasInstalled (old : Holding) (s : GroupedStep) (new : Holding) : Type 0 where
  pub taken : HasStepped old s.packet s.whole.value.outputs new
  pub records : (slot : Slot) → records_of new.messages.entries slot ≡ changed_by s.whole.value.next.change (records_of old.messages.entries) slot
  pub own : AreOwn new
  pub others : (id : ℕ) → (id ≡ s.id → ⊥) → IsAlike id old new
  pub room : old.messages.room ≤ new.messages.room + 1
  pub lists : old.messages.listings ≤ new.messages.listings + 1
