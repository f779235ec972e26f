-- The steps of a world of nodes of the code, as a run of a cluster of nodes by what they keep (own).
use Rattle.std.specs.Prelude.{◌≡◌, ℕ, zero, suc, ◌+◌, ◌<◌, nat_lt, nat_le, ◌&&◌, not, Bool, true, false, List, [], ◌∷◌, ◌++◌, length, map}
use Rattle.std.specs.Prelude.{reverse, option_map, Option, Some, None, Result, Ok, Err, IfSome, OnErr, if◌then◌else◌}
use Rattle.mc_model.specs.synod.Packet.{Packet}
use Rattle.mc_model.specs.node.Input.{Crash, Delivery, Grant, Response, Restart, Tick}
use Rattle.mc_model.specs.node.Outputs.{HasNumber, Outputs}
use Rattle.mc_model.specs.node.Setup.{Setup}
use Rattle.mc_model.specs.cluster.Steps.{Cluster, setup_of}
use Rattle.node_model.specs.Attempts.{grant_refusal}
use Rattle.node_model.specs.Granted.{is_open, known_slot}
use Rattle.node_model.specs.Kept.{Kept}
use Rattle.node_model.specs.Outputs.{nothing}
use Rattle.node_model.specs.Reported.{receipt_of}
use Rattle.node_laws.specs.Clusters.{KeptCluster, MayHappen, NodeInput, comes_to, kept_reached, step_at}
use Rattle.delivery.specs.Kept.{outcome_kept}
use Rattle.node_runs.specs.Reaching.{reach_of}
use Rattle.desk.specs.Arrivals.{requested}
use Rattle.fate_chain.specs.declared.chain.Chain.{Chain}
use Rattle.pdu_tables.specs.StatusCodes.{status_code}
use Rattle.waiting_requests.specs.Replying.{reply_given}
use Rattle.stable_store.specs.Stored.{AreSame, Listed}
use Rattle.synod_acceptor.specs.Packets.{packet_of}
use Rattle.synod_acceptor.specs.Records.{record_at}
use Rattle.node_runs.specs.Attempting.{reason_of}
use Rattle.node_runs.specs.Keeping.{kept_of}
use Rattle.node_runs.specs.Listing.{ListsRecorded}
use Rattle.node_runs.specs.Steps.{IsKnown, granted_of}
use Rattle.node_runs.specs.Nodes.{Standing}
use Rattle.node_runs.specs.Stops.{is_after}
use Rattle.sim_net.specs.Network.{numbered}
use Rattle.world.specs.declared.fault.StartFault.{StartFault}
use Rattle.world.specs.declared.fault.StartFault.TheVariants as starts
use Rattle.world.specs.declared.fault.WorldFault.{WorldFault}
use Rattle.world.specs.declared.fault.WorldFault.TheVariants as faults
use Rattle.world.specs.declared.given.Given.{Given}
use Rattle.node_entry.specs.declared.step.Step.{Step}
use Rattle.node_entry.specs.declared.step.Step.TheVariants as steps
use Rattle.world.specs.Scenes.{Placed, Scene}

-- ---- what comes by a step

-- Nodes by what they keep, after which so many packets that this world does not number were sent: this comes to one of them by a step.
abbrev pub Comes : Cluster → ℕ → KeptCluster → Step → NodeInput → Type 0
Comes cluster behind w (steps.Deliver number node) next =
    (packet : Packet) × HasNumber w.packets (number + behind) packet × (next ≡ comes_to node (Delivery packet))
Comes cluster behind w (steps.Request node account request) next = next ≡ comes_to node (requested (setup_of cluster node) (w.kept node) account request)
Comes cluster behind w (steps.Tick node moment reach) next = next ≡ comes_to node (Tick moment (reach_of reach))
Comes cluster behind w (steps.Grant node id) next = next ≡ comes_to node (Grant (known_slot (w.kept node) id))
Comes cluster behind w (steps.Answered node slot outcome) next = next ≡ comes_to node (Response slot (outcome_kept outcome))
Comes cluster behind w (steps.Crash node number found) next =
    (packet : Packet) × HasNumber w.packets (number + behind) packet × (next ≡ comes_to node (Crash packet (is_after found)))
Comes cluster behind w (steps.Restart node) next = (lost : ℕ) × (next ≡ comes_to node (Restart lost))

-- of a start anew: it loses no incarnation
abbrev pub LosesNone : Step → NodeInput → Type 0
LosesNone (steps.Restart node) next = next ≡ comes_to node (Restart 0)
LosesNone other next = Unit {0}

-- ---- whether the node that takes a step is up then

abbrev pub leaves_up : Step → Bool
leaves_up (steps.Crash node number found) = false
leaves_up other = true

-- ---- why a step is refused: the lowest number that fits, but that a node is down before why an attempt is not granted

abbrev pub fault_number : WorldFault → ℕ
fault_number faults.NoSuchPacket = 1
fault_number faults.NoSuchNode = 2
fault_number (faults.Grant refusal) = 3
fault_number faults.Down = 4
fault_number faults.NotGranted = 5
fault_number faults.Spent = 6
fault_number faults.Memory = 7

abbrev pub or_else : Option WorldFault → Option WorldFault → Option WorldFault
or_else (Some fault) other = Some fault
or_else None other = other

-- no packet of this world has the number
abbrev pub unsent : ℕ → KeptCluster → ℕ → Option WorldFault
unsent behind w number = if nat_lt 0 number && nat_le (number + behind) (length w.packets) then None else Some faults.NoSuchPacket

abbrev pub absent : Cluster → ℕ → Option WorldFault
absent cluster node = if nat_le node cluster.nodes then None else Some faults.NoSuchNode

abbrev pub down : KeptCluster → ℕ → Option WorldFault
down w node = if (w.kept node).up then None else Some faults.Down

abbrev pub away : Cluster → KeptCluster → ℕ → Option WorldFault
away cluster w node = or_else (absent cluster node) (down w node)

-- a node has so many incarnations (own)
abbrev pub last_incarnation : ℕ
last_incarnation = 9999

abbrev pub spent : KeptCluster → ℕ → Option WorldFault
spent w node = if nat_lt (w.kept node).incarnation last_incarnation then None else Some faults.Spent

abbrev pub ungranted : Cluster → KeptCluster → ℕ → ℕ → Option WorldFault
ungranted cluster w node id = option_map (λ refusal. faults.Grant (reason_of refusal)) (grant_refusal (setup_of cluster node) (w.kept node) id)

abbrev pub refusal_of : Cluster → ℕ → KeptCluster → Step → Option WorldFault
refusal_of cluster behind w (steps.Deliver number node) = or_else (unsent behind w number) (away cluster w node)
refusal_of cluster behind w (steps.Request node account request) = away cluster w node
refusal_of cluster behind w (steps.Tick node moment reach) = away cluster w node
refusal_of cluster behind w (steps.Grant node id) = or_else (away cluster w node) (ungranted cluster w node id)
refusal_of cluster behind w (steps.Answered node slot outcome) =
    or_else (away cluster w node) (if is_open (w.kept node) slot then None else Some faults.NotGranted)
refusal_of cluster behind w (steps.Crash node number found) = or_else (unsent behind w number) (away cluster w node)
refusal_of cluster behind w (steps.Restart node) = or_else (absent cluster node) (spent w node)

-- a step that is not refused fails for want of memory alone
abbrev pub IsFault : Option WorldFault → WorldFault → Type 0
IsFault None fault = fault ≡ faults.Memory
IsFault (Some refusal) fault = fault ≡ refusal

-- ---- what goes out

-- what a step gave out, but for its packets
abbrev pub given_out : Given → Outputs
given_out g = record nothing {
  ticket = g.ticket;
  refused = option_map status_code g.refused;
  replies = map reply_given g.replies.items;
  receipts = map receipt_of g.receipts.items;
  granted = option_map granted_of g.granted;
}

-- these outputs, of which the packets are counted
pub record IsGiven (given : Given) (outputs : Outputs) : Type 0 where
  pub others : given_out given ≡ record outputs { packets = [] }
  pub packets : given.packets ≡ length outputs.packets

-- ---- where a world stands in a run

-- A node that is down: nothing is left of it but its records, its incarnation and its setup.
pub record IsDown (k : Kept) (node : Standing Listed) : Type 0 where
  pub down : k.up ≡ false
  pub incarnation : node.kept.incarnation ≡ k.incarnation
  pub lists : ListsRecorded k
  pub stored : AreSame (record_at node.store.entries) k.records

abbrev pub StandsAs : Kept → Bool → Standing Listed → Type 0
StandsAs k true node = kept_of node.kept ≡ k
StandsAs k false node = IsDown k node

-- this is kept by a node of the model that is set up so
pub record IsMember (setup : Setup) (k : Kept) (m : Placed) : Type 0 where
  pub setup_is : m.node.kept.setup ≡ setup
  pub stands : StandsAs k m.up m.node

-- After these inputs, the newest first, and packets that were sent before this world began, a cluster of nodes by what they keep is as this
-- world is.
pub record IsAt (cluster : Cluster) (behind : List Packet) (inputs : List NodeInput) (w : Scene) : Type 0 where
  pub may : MayHappen cluster inputs
  pub nodes : length w.members ≡ cluster.nodes
  pub members : (node : ℕ) (m : Placed) → numbered w.members node ≡ Some m → IsMember (setup_of cluster node) ((kept_reached cluster inputs).kept node) m
  pub packets : (kept_reached cluster inputs).packets ≡ reverse (map packet_of w.packets) ++ behind
  pub fresh : w.fresh ≡ true → (inputs ≡ []) × (behind ≡ [])

-- why no world starts with so many nodes and this serial (own)
abbrev pub start_refusal : ℕ → ℕ → Option StartFault
start_refusal nodes serial =
    if not (nat_le 1 nodes && nat_le nodes 9) then Some starts.Nodes
    else if not (nat_le 1 serial && nat_le serial 99999) then Some starts.Serial
    else None

abbrev pub IsStartFault : Option StartFault → StartFault → Type 0
IsStartFault None fault = fault ≡ starts.Memory
IsStartFault (Some refusal) fault = fault ≡ refusal

-- each world stands somewhere in a run
pub record IsSomewhere (w : Scene) : Type 0 where
  pub cluster : Cluster
  pub behind : List Packet
  pub inputs : List NodeInput
  pub at : IsAt cluster behind inputs w

-- ---- from one step to the next

-- what is given out of an attempt that is granted is the known chain of its message
abbrev pub GrantsKnownBy : KeptCluster → Step → Option Chain → Type 0
GrantsKnownBy w (steps.Deliver number node) granted = Unit {0}
GrantsKnownBy w (steps.Request node account request) granted = Unit {0}
GrantsKnownBy w (steps.Tick node moment reach) granted = Unit {0}
GrantsKnownBy w (steps.Grant node id) granted = IfSome granted (IsKnown (w.kept node) id)
GrantsKnownBy w (steps.Answered node slot outcome) granted = Unit {0}
GrantsKnownBy w (steps.Crash node number found) granted = Unit {0}
GrantsKnownBy w (steps.Restart node) granted = Unit {0}

-- The step was taken: this came to a node, and this is what the model's cluster gives out. A store in memory loses no incarnation.
pub record GoesOn (cluster : Cluster) (behind : List Packet) (inputs : List NodeInput) (step : Step) (given : Given) (new : Scene) : Type 0 where
  pub allowed : refusal_of cluster (length behind) (kept_reached cluster inputs) step ≡ None
  pub next : NodeInput
  pub comes : Comes cluster (length behind) (kept_reached cluster inputs) step next
  pub loses : LosesNone step next
  pub at : IsAt cluster behind (next ∷ inputs) new
  pub gives : IsGiven given (step_at cluster (kept_reached cluster inputs) next).outputs
  pub granted : GrantsKnownBy (kept_reached cluster inputs) step given.granted

-- It was not taken, and nothing changed.
pub record StaysAt (cluster : Cluster) (behind : List Packet) (inputs : List NodeInput) (step : Step) (fault : WorldFault) (new : Scene) : Type 0 where
  pub refused : IsFault (refusal_of cluster (length behind) (kept_reached cluster inputs) step) fault
  pub at : IsAt cluster behind inputs new

abbrev pub Answers : Cluster → List Packet → List NodeInput → Step → Result Given WorldFault → Scene → Type 0
Answers cluster behind inputs step (Ok given) new = GoesOn cluster behind inputs step given new
Answers cluster behind inputs step (Err fault) new = StaysAt cluster behind inputs step fault new

-- Wherever the world stood in a run, the run goes on so; a step that is not taken leaves also whether any was taken before.
pub record Leads (old : Scene) (step : Step) (result : Result Given WorldFault) (new : Scene) : Type 0 where
  pub fresh : OnErr result (new.fresh ≡ old.fresh)
  pub each : (cluster : Cluster) (behind : List Packet) (inputs : List NodeInput) → IsAt cluster behind inputs old
      → Answers cluster behind inputs step result new

-- ---- over the stores of nodes that ended

-- nodes 1 to so many start anew, one after the other: the newest first
abbrev pub begin_anew : ℕ → List NodeInput
begin_anew zero = []
begin_anew (suc count) = comes_to (suc count) (Restart 0) ∷ begin_anew count

-- Each node started anew, wherever the world stood in a run, and all packets that were sent by then are behind it.
pub record StartsOver (old new : Scene) : Type 0 where
  pub none : new.packets ≡ []
  pub each : (cluster : Cluster) (behind : List Packet) (inputs : List NodeInput) → IsAt cluster behind inputs old
      → IsAt cluster (kept_reached cluster inputs).packets (begin_anew cluster.nodes ++ inputs) new

-- Or only the first so many did, and the next one did not.
pub record HaltsOver (old : Scene) (fault : WorldFault) (new : Scene) : Type 0 where
  pub count : ℕ
  pub more : count < length old.members
  pub each : (cluster : Cluster) (behind : List Packet) (inputs : List NodeInput) → IsAt cluster behind inputs old
      → StaysAt cluster behind (begin_anew count ++ inputs) (steps.Restart (suc count)) fault new
