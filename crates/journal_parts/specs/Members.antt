-- A node and its own steps, under its lock (own).
use Rattle.std.specs.Prelude.{◌≡◌, ◌≤◌, ℕ, Bool, false, true, List, [], ◌∷◌, ◌++◌, Option, Some, None, option_map}
use Rattle.std.specs.Arc.{arc_value}
use Rattle.mc_model.specs.synod.Lists.{In}
use Rattle.mc_model.specs.node.Setup.{Setup}
use Rattle.mc_model.specs.cluster.Steps.{Cluster, setup_of}
use Rattle.node_model.specs.Kept.{Kept}
use Rattle.node_model.specs.Outputs.{nothing}
use Rattle.node_model.specs.Stepped.{stepped}
use Rattle.node_laws.specs.Runs.{MayCome}
use Rattle.stable_store.specs.Stored.{Stored}
use Rattle.synod_acceptor.specs.Packets.{packet_of}
use Rattle.synod_acceptor.specs.declared.packet.Packet.{Packet}
use Rattle.world.specs.declared.given.Given.{Given as GivenOut}
use Rattle.node_entry.specs.declared.step.Step.{Step}
use Rattle.node_entry.specs.declared.step.Step.TheVariants as steps
use Rattle.world.specs.Runs.{IsGiven}
use Rattle.node_entry.specs.Taking.{node_at}
use Rattle.node_core.specs.Input.{Input as Given}
use Rattle.node_core.specs.Input.TheVariants as given
use Rattle.node_core.specs.Keeping.{kept_of}
use Rattle.node_core.specs.Kept.{Kept as Holding}
use Rattle.node_core.specs.Steps.{input_of}
use Rattle.node_core.specs.Nodes.{Standing}
use Rattle.node_core.specs.Reaching.{IsSameReach}
use Rattle.node_core.specs.Stopped.{Stopped}
use Rattle.journal_laws.specs.Journals.{Entry, IsInRange, IsOwnRun, Unfinished, done_in, steps_for}
use Rattle.journal_laws.specs.Taken.{IsTakenBy, started_anew}
use Rattle.journal_parts.specs.declared.done.Done.{Done as Taken}
use Rattle.journal_parts.specs.declared.post.Halted.{Halted}
use Rattle.journal_parts.specs.declared.post.Post.{Post}
use Rattle.journal_parts.specs.Entries.{done_of}

-- ---- a node at its post

-- what it is, the packet in the save of whose step it stopped, with its number, and whether it is astray
pub record Posted (S : Type 0) : Type 0 where
  pub node : Standing S
  pub halted : Option (ℕ × Option Packet)
  pub astray : Bool

abbrev pub halt_of : Halted → ℕ × Option Packet
halt_of halted = (halted.number, (arc_value halted.done).packet)

abbrev pub packet_halted : Option (ℕ × Option Packet) → Option Packet
packet_halted None = None
packet_halted (Some halt) = halt.1

abbrev pub posted : {S : Type 0} → Post S → Posted S
posted post = record { node = post.node; halted = option_map halt_of post.halted; astray = post.astray }

-- with its own entries, the oldest first, and for how many more it has room
pub record Membered (S : Type 0) : Type 0 where
  pub post : Posted S
  pub own : List Entry
  pub room : ℕ

-- It is a node of the cluster; each of its entries is its own; and unless its store is in doubt, they are its own run, from what it keeps where the journal
-- begins to what it keeps now, if it is not astray.
pub record IsMember {S : Type 0} (stored : S → Stored) (cluster : Cluster) (kept : ℕ → Kept) (post : Posted S) (own : List Entry) : Type 0 where
  pub within : IsInRange cluster post.node.kept.setup.node
  pub setup : post.node.kept.setup ≡ setup_of cluster post.node.kept.setup.node
  pub entries : (entry : Entry) → In entry own → node_at entry.done.step ≡ post.node.kept.setup.node
  pub halts : post.node.unfinished ≡ packet_halted post.halted
  pub ends : Kept
  pub runs : (stored post.node.store).doubt ≡ 0 → IsOwnRun post.node.kept.setup (kept post.node.kept.setup.node) (done_in own) ends
  pub is_end : post.astray ≡ false → ends ≡ kept_of post.node.kept

-- the newest of its own entries
abbrev pub IsNewest : Entry → List Entry → Type 0
IsNewest entry own = (before : List Entry) × (own ≡ before ++ entry ∷ [])

-- It is a node of the cluster, and stands where the journal begins.
pub record IsBeginning {S : Type 0} (cluster : Cluster) (kept : ℕ → Kept) (node : Standing S) : Type 0 where
  pub within : IsInRange cluster node.kept.setup.node
  pub setup : node.kept.setup ≡ setup_of cluster node.kept.setup.node
  pub begins : kept_of node.kept ≡ kept node.kept.setup.node
  pub finished : node.unfinished ≡ None

-- It took a step: it is the same node, and keeps what the step leaves.
pub record Takes {S : Type 0} (stored : S → Stored) (old : Posted S) (input : Given) (new : Posted S) : Type 0 where
  pub kept : kept_of new.node.kept
      ≡ (stepped old.node.kept.setup (kept_of old.node.kept) (input_of old.node.kept.setup (kept_of old.node.kept) input)).kept
  pub setup : new.node.kept.setup ≡ old.node.kept.setup
  pub unfinished : new.node.unfinished ≡ old.node.unfinished
  pub halted : new.halted ≡ old.halted
  pub astray : new.astray ≡ old.astray
  pub doubt : (stored old.node.store).doubt ≤ (stored new.node.store).doubt

-- It keeps what it kept, and if a save failed, the post has the packet of its step.
pub record Rests {S : Type 0} (stored : S → Stored) (old new : Posted S) : Type 0 where
  pub kept : new.node.kept ≡ old.node.kept
  pub halts : old.node.unfinished ≡ packet_halted old.halted → new.node.unfinished ≡ packet_halted new.halted
  pub astray : new.astray ≡ old.astray
  pub doubt : (stored old.node.store).doubt ≤ (stored new.node.store).doubt

-- the save that a node tells of once it was opened again, with the number of its packet
abbrev pub save_by : Option (ℕ × Option Packet) → Option Stopped → Option Unfinished
save_by None told = None
save_by (Some halt) None = None
save_by (Some halt) (Some told) = Some (record { number = halt.0; found = told.found })

-- It was opened again. Unless its store is in doubt, it has taken the steps for an entry of a start anew, which names that save.
pub record Reopens {S : Type 0} (stored : S → Stored) (old : Posted S) (save : Option Unfinished) (new : Posted S) : Type 0 where
  pub setup : new.node.kept.setup ≡ old.node.kept.setup
  pub unfinished : new.node.unfinished ≡ None
  pub halted : new.halted ≡ None
  pub astray : new.astray ≡ false
  pub doubt : (stored old.node.store).doubt ≤ (stored new.node.store).doubt
  pub runs : (stored new.node.store).doubt ≡ 0 → (given : GivenOut) → IsGiven given nothing →
      IsOwnRun old.node.kept.setup (kept_of old.node.kept)
      (steps_for (started_anew old.node.kept.setup.node given (option_map packet_of (packet_halted old.halted))) save) (kept_of new.node.kept)

-- It was opened again in an incarnation that was used.
pub record Strays {S : Type 0} (stored : S → Stored) (old new : Posted S) : Type 0 where
  pub setup : new.node.kept.setup ≡ old.node.kept.setup
  pub unfinished : new.node.unfinished ≡ None
  pub halted : new.halted ≡ None
  pub astray : new.astray ≡ true
  pub doubt : (stored old.node.store).doubt ≤ (stored new.node.store).doubt

-- ---- a step that is to be taken

-- this comes by a step of a node, with the packet that comes, if one does
abbrev pub ComesWith : Step → Option Packet → Given → Type 0
ComesWith (steps.Deliver number node) packet input = option_map given.Packet packet ≡ Some input
ComesWith (steps.Request node account request) packet input = (packet ≡ None) × (input ≡ given.Request account request)
ComesWith (steps.Tick node moment reach) packet (given.Tick then others) = (packet ≡ None) × (then ≡ moment) × IsSameReach reach others
ComesWith (steps.Tick node moment reach) packet input = ⊥
ComesWith (steps.Grant node id) packet input = (packet ≡ None) × (input ≡ given.Grant id)
ComesWith (steps.Answered node slot outcome) packet input = (packet ≡ None) × (input ≡ given.Answered slot outcome)
ComesWith (steps.Crash node number found) packet input = ⊥
ComesWith (steps.Restart node) packet input = ⊥

-- a node neither stops nor starts anew by it
abbrev pub IsAct : Step → Type 0
IsAct (steps.Deliver number node) = Unit {0}
IsAct (steps.Request node account request) = Unit {0}
IsAct (steps.Tick node moment reach) = Unit {0}
IsAct (steps.Grant node id) = Unit {0}
IsAct (steps.Answered node slot outcome) = Unit {0}
IsAct (steps.Crash node number found) = ⊥
IsAct (steps.Restart node) = ⊥

-- only a packet that comes has one beside its step, and a node neither stops nor starts anew by one that is prepared
abbrev pub CanBeTaken : Step → Option Packet → Type 0
CanBeTaken (steps.Deliver number node) packet = (came : Packet) × (packet ≡ Some came)
CanBeTaken (steps.Request node account request) packet = packet ≡ None
CanBeTaken (steps.Tick node moment reach) packet = packet ≡ None
CanBeTaken (steps.Grant node id) packet = packet ≡ None
CanBeTaken (steps.Answered node slot outcome) packet = packet ≡ None
CanBeTaken (steps.Crash node number found) packet = ⊥
CanBeTaken (steps.Restart node) packet = ⊥

-- It took this step, which is that of a packet, and nothing goes out by it.
pub record TakesQuietly {S : Type 0} (stored : S → Stored) (old : Posted S) (done : Taken) (new : Posted S) : Type 0 where
  pub input : Given
  pub comes : ComesWith done.step done.packet input
  pub may : MayCome old.node.kept.setup (kept_of old.node.kept) (input_of old.node.kept.setup (kept_of old.node.kept) input)
  pub gives : (stepped old.node.kept.setup (kept_of old.node.kept) (input_of old.node.kept.setup (kept_of old.node.kept) input)).outputs ≡ nothing
  pub takes : Takes stored old input new

-- what the node kept, what is to come to it, and the step as it will stand in the journal
pub record Readied : Type 0 where
  pub was : Holding
  pub input : Given
  pub done : Taken

pub record IsReady (setup : Setup) (k : Kept) (input : Given) (done : Taken) : Type 0 where
  pub comes : ComesWith done.step done.packet input
  pub taken : IsTakenBy setup k (input_of setup k input) (done_of done)
