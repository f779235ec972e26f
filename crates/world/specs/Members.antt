-- One node of a world, and what it does (own).
use Rattle.std.specs.Prelude.{◌≡◌, ◌⊎◌, ℕ, ◌+◌, ◌<◌, ◌≤◌, Bool, true, false, List, [], ◌++◌, length, map, Option, Some, None, if◌then◌else◌}
use Rattle.std.specs.List.{slice_get}
use Rattle.std.proofs.Math.ListN.{set}
use Rattle.mc_model.specs.synod.Lists.{In}
use Rattle.mc_model.specs.node.Input.{Restart}
use Rattle.node_model.specs.Kept.{Kept}
use Rattle.node_model.specs.Outputs.{Stepped, nothing}
use Rattle.mc_model.specs.node.Setup.{Setup}
use Rattle.node_model.specs.Stepped.{opened_new, stepped, stopped}
use Rattle.node_laws.specs.Runs.{IsOneOf}
use Rattle.node_laws.specs.Steps.{IsWellMade}
use Rattle.stable_store.specs.Stored.{AreSame, Listed}
use Rattle.stable_store.specs.declared.fault.StoreFault.{StoreFault}
use Rattle.stable_store.specs.declared.fault.StoreFault.TheVariants as stores
use Rattle.synod_acceptor.specs.Packets.{packet_of}
use Rattle.synod_acceptor.specs.Records.{record_at}
use Rattle.synod_acceptor.specs.declared.packet.Packet.{Packet}
use Rattle.node_runs.specs.StepFault.{StepFault}
use Rattle.node_runs.specs.StepFault.TheVariants as steps
use Rattle.node_runs.specs.Input.{Input}
use Rattle.node_runs.specs.Input.TheVariants as inputs
use Rattle.node_runs.specs.Keeping.{kept_of}
use Rattle.node_runs.specs.Listing.{ListsRecorded}
use Rattle.node_runs.specs.Setups.{setup_with}
use Rattle.node_runs.specs.Steps.{GrantsKnown, IsFault as IsStepFault, input_of, refused_by}
use Rattle.node_runs.specs.Life.{Life}
use Rattle.node_runs.specs.Nodes.{HasTakenQuietly, IsLifeOf, Standing}
use Rattle.node_runs.specs.Runs.{may_come_to}
use Rattle.world.specs.declared.fault.WorldFault.{WorldFault}
use Rattle.world.specs.declared.fault.WorldFault.TheVariants as faults
use Rattle.world.specs.declared.given.Given.{Given}
use Rattle.sim_net.specs.Network.{numbered}
use Rattle.world.specs.Scenes.{Placed, Scene}
use Rattle.world.specs.Runs.{IsGiven, StandsAs, or_else}

-- ---- faults

abbrev pub fault_of_store : StoreFault → WorldFault
fault_of_store stores.Incarnations = faults.Spent
fault_of_store stores.Device = faults.Memory
fault_of_store stores.Damaged = faults.Memory
fault_of_store stores.Memory = faults.Memory

abbrev pub fault_from : StepFault → WorldFault
fault_from steps.Broken = faults.Memory
fault_from (steps.Grant refusal) = faults.Grant refusal
fault_from steps.NotGranted = faults.NotGranted
fault_from steps.Device = faults.Memory
fault_from steps.StrangeLife = faults.Memory
fault_from steps.Memory = faults.Memory

-- ---- a node

-- a life of it, unless it is just opening again
abbrev pub IsLived : Standing Listed → Option Life → Type 0
IsLived node None = ⊥
IsLived node (Some life) = IsLifeOf node life

-- its store never fails, and has its incarnation
pub record IsSound (node : Standing Listed) (life : Option Life) : Type 0 where
  pub works : node.broken ≡ false
  pub started : node.store.started ≡ node.kept.incarnation
  pub lives : IsLived node life

-- it opened over a new store
pub record IsOpened (setup : Setup) (m : Placed) : Type 0 where
  pub up : m.up ≡ true
  pub setup_is : m.node.kept.setup ≡ setup
  pub kept : kept_of m.node.kept ≡ opened_new setup

-- nothing of it changed
pub record IsUnmoved (old new : Placed) : Type 0 where
  pub kept : new.node.kept ≡ old.node.kept
  pub up : new.up ≡ old.up
  pub stored : AreSame (record_at new.node.store.entries) (record_at old.node.store.entries)

-- ---- what it does

abbrev pub step_by : Placed → Input → Stepped
step_by m input = stepped m.node.kept.setup (kept_of m.node.kept) (input_of m.node.kept.setup (kept_of m.node.kept) input)

-- It took the step of an input, which may come to it, and sent its packets.
pub record HasSent (old : Placed) (input : Input) (before : List Packet) (given : Given) (new : Placed) (after : List Packet) : Type 0 where
  pub one : IsOneOf old.node.kept.setup
  pub may : may_come_to old.node input
  pub allowed : refused_by old.node.kept.setup (kept_of old.node.kept) input ≡ None
  pub up : new.up ≡ true
  pub setup : new.node.kept.setup ≡ old.node.kept.setup
  pub kept : kept_of new.node.kept ≡ (step_by old input).kept
  pub gives : IsGiven given (step_by old input).outputs
  pub granted : GrantsKnown (kept_of old.node.kept) input given.granted
  pub packets : map packet_of after ≡ map packet_of before ++ (step_by old input).outputs.packets

-- It took the step of a packet, which gives nothing out.
pub record HasPassed (old : Placed) (packet : Packet) (new : Placed) : Type 0 where
  pub one : IsOneOf old.node.kept.setup
  pub well : IsWellMade (packet_of packet)
  pub up : new.up ≡ true
  pub taken : HasTakenQuietly old.node packet new.node

-- It took the step of a packet, of which nothing was sent.
pub record HasSaved (old : Placed) (packet : Packet) (new : Placed) : Type 0 where
  pub up : new.up ≡ old.up
  pub setup : new.node.kept.setup ≡ old.node.kept.setup
  pub incarnation : new.node.kept.incarnation ≡ old.node.kept.incarnation
  pub stored : AreSame (record_at new.node.store.entries) (step_by old (inputs.Packet packet)).kept.records

-- It stopped as a packet came, before the save of that step or after it.
pub record HasCrashed (old : Placed) (packet : Packet) (after : Bool) (new : Placed) : Type 0 where
  pub one : IsOneOf old.node.kept.setup
  pub well : IsWellMade (packet_of packet)
  pub down : new.up ≡ false
  pub setup : new.node.kept.setup ≡ old.node.kept.setup
  pub incarnation : new.node.kept.incarnation ≡ old.node.kept.incarnation
  pub life : (stopped old.node.kept.setup (kept_of old.node.kept) (packet_of packet) after).incarnation ≡ old.node.kept.incarnation
  pub lists : ListsRecorded (stopped old.node.kept.setup (kept_of old.node.kept) (packet_of packet) after)
  pub stored : AreSame (record_at new.node.store.entries) (stopped old.node.kept.setup (kept_of old.node.kept) (packet_of packet) after).records

-- It started anew: whatever the model's node kept that it stood for.
pub record HasRestarted (old new : Placed) : Type 0 where
  pub one : IsOneOf old.node.kept.setup
  pub up : new.up ≡ true
  pub setup : new.node.kept.setup ≡ old.node.kept.setup
  pub left : old.node.kept.incarnation < 9999
  pub kept : (k : Kept) → StandsAs k old.up old.node → kept_of new.node.kept ≡ (stepped old.node.kept.setup k (Restart 0)).kept

-- ---- one of many

-- this node stands at a place of the list, which begins at 0
pub record IsPlace (w : Scene) (node place : ℕ) (m : Placed) : Type 0 where
  pub place_is : node ≡ place + 1
  pub found : slice_get w.members place ≡ Some m

-- and is up
pub record IsUpAt (w : Scene) (node place : ℕ) : Type 0 where
  pub member : Placed
  pub is : IsPlace w node place member
  pub up : member.up ≡ true

-- another stands in its place
pub record HasChanged (old : Scene) (place : ℕ) (m : Placed) (new : Scene) : Type 0 where
  pub members : new.members ≡ set old.members place m
  pub fresh : new.fresh ≡ false

-- it is as it was
pub record IsKept (old : Scene) (place : ℕ) (m : Placed) : Type 0 where
  pub was : Placed
  pub found : slice_get old.members place ≡ Some was
  pub unmoved : IsUnmoved was m

-- nothing changed
pub record Keeps (old new : Scene) : Type 0 where
  pub members : (place : ℕ) (m : Placed) → slice_get new.members place ≡ Some m → IsKept old place m
  pub nodes : length new.members ≡ length old.members
  pub packets : new.packets ≡ old.packets
  pub fresh : new.fresh ≡ old.fresh

-- why nothing comes to a node, by the world itself
abbrev pub down_in : Option Placed → Option WorldFault
down_in None = Some faults.NoSuchNode
down_in (Some m) = if m.up then None else Some faults.Down

abbrev pub away_in : Scene → ℕ → Option WorldFault
away_in w node = down_in (numbered w.members node)

-- a packet that comes was sent in this world
abbrev pub IsSentIn : Scene → Input → Type 0
IsSentIn w (inputs.Packet packet) = In packet w.packets
IsSentIn w (inputs.Request account request) = Unit {0}
IsSentIn w (inputs.Grant id) = Unit {0}
IsSentIn w (inputs.Answered slot outcome) = Unit {0}
IsSentIn w (inputs.Tick moment reach) = Unit {0}

-- a node that is up took the step of an input
pub record HasTaken (old : Scene) (node : ℕ) (input : Input) (given : Given) (new : Scene) : Type 0 where
  pub place : ℕ
  pub member : Placed
  pub is : IsPlace old node place member
  pub up : member.up ≡ true
  pub after : Placed
  pub sent : HasSent member input old.packets given after new.packets
  pub changed : HasChanged old place after new

-- or it did not, for this reason
pub record RefusesTo (old : Scene) (node : ℕ) (input : Input) (fault : WorldFault) : Type 0 where
  pub place : ℕ
  pub member : Placed
  pub is : IsPlace old node place member
  pub up : member.up ≡ true
  pub cause : StepFault
  pub refused : IsStepFault (refused_by member.node.kept.setup (kept_of member.node.kept) input) cause
  pub fault_is : fault ≡ fault_from cause

-- or nothing comes to it
abbrev pub DoesNotTake : Scene → ℕ → Input → WorldFault → Type 0
DoesNotTake old node input fault = (away_in old node ≡ Some fault) ⊎ RefusesTo old node input fault

-- ---- packets, stops and starts

abbrev pub unsent_in : Option Packet → Option WorldFault
unsent_in None = Some faults.NoSuchPacket
unsent_in (Some packet) = None

-- why no packet with a number comes to a node
abbrev pub undelivered_in : Scene → ℕ → ℕ → Option WorldFault
undelivered_in w number node = or_else (unsent_in (numbered w.packets number)) (away_in w node)

-- this packet has the number, and the node at this place is up
pub record IsAddressed (w : Scene) (number node place : ℕ) (packet : Packet) : Type 0 where
  pub up : IsUpAt w node place
  pub packet_is : numbered w.packets number ≡ Some packet
  pub sent : In packet w.packets

-- the packet with a number came to a node that is up, which took its step and gave nothing out
pub record HasComeQuietly (old : Scene) (number node : ℕ) (given : Given) (new : Scene) : Type 0 where
  pub packet : Packet
  pub place : ℕ
  pub addressed : IsAddressed old number node place packet
  pub taken : HasTaken old node (inputs.Packet packet) given new

-- a node that is up stopped as a packet came
pub record HasStopped (old : Scene) (place : ℕ) (packet : Packet) (behind : Bool) (given : Given) (new : Scene) : Type 0 where
  pub member : Placed
  pub is : IsPlace old (place + 1) place member
  pub up : member.up ≡ true
  pub after : Placed
  pub crashed : HasCrashed member packet behind after
  pub changed : HasChanged old place after new
  pub packets : new.packets ≡ old.packets
  pub gives : IsGiven given nothing

-- a node started anew
pub record HasBegun (old : Scene) (place : ℕ) (given : Given) (new : Scene) : Type 0 where
  pub member : Placed
  pub is : IsPlace old (place + 1) place member
  pub after : Placed
  pub restarted : HasRestarted member after
  pub changed : HasChanged old place after new
  pub packets : new.packets ≡ old.packets
  pub gives : IsGiven given nothing

-- or it did not: it has begun its last incarnation, or there was no memory for it
pub record CantBegin (old : Scene) (place : ℕ) (fault : WorldFault) : Type 0 where
  pub member : Placed
  pub is : IsPlace old (place + 1) place member
  pub why : ((fault ≡ faults.Spent) × (9999 ≤ member.node.kept.incarnation)) ⊎ ((fault ≡ faults.Memory) × (member.node.kept.incarnation < 9999))

-- no packet that was sent is left
pub record HasForgotten (old new : Scene) : Type 0 where
  pub members : new.members ≡ old.members
  pub none : new.packets ≡ []
  pub fresh : new.fresh ≡ false

-- the first of so many nodes opened, each over a new store
pub record AreOpened (nodes serial validity count : ℕ) (members : List Placed) : Type 0 where
  pub count_is : length members ≡ count
  pub each : (place : ℕ) (m : Placed) → slice_get members place ≡ Some m → IsOpened (setup_with (place + 1) nodes serial validity) m
