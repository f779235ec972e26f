-- The journal of the nodes of a cluster, each of which took its steps by itself; and when it is a run of the cluster (own).
use Rattle.std.specs.Prelude.{◌≡◌, ℕ, ◌+◌, ◌≤◌, ◌==◌, List, [], ◌∷◌, ◌++◌, length, filter, map, reverse, option_map, Option, Some, None}
use Rattle.std.specs.Prelude.{Ok, IfSome}
use Rattle.std.specs.List.{flat_map}
use Rattle.mc_model.specs.synod.Lists.{In}
use Rattle.mc_model.specs.synod.Packet.{Packet}
use Rattle.mc_model.specs.node.Input.{Crash, Delivery, Grant, Input, Response, Restart, Tick}
use Rattle.mc_model.specs.node.Outputs.{HasNumber, Outputs}
use Rattle.mc_model.specs.node.Setup.{Setup}
use Rattle.mc_model.specs.cluster.Steps.{Cluster, setup_of}
use Rattle.node_model.specs.Granted.{known_slot}
use Rattle.node_model.specs.Kept.{Kept}
use Rattle.node_model.specs.Stepped.{stepped}
use Rattle.node_laws.specs.Clusters.{MayHappen, NodeInput, kept_reached}
use Rattle.node_laws.specs.Runs.{IsUpFor, MayCome}
use Rattle.delivery.specs.Kept.{outcome_kept}
use Rattle.node_core.specs.Reaching.{reach_of}
use Rattle.desk.specs.Arrivals.{requested}
use Rattle.node_core.specs.Found.{Found}
use Rattle.node_core.specs.Stops.{is_after}
use Rattle.world_runs.specs.Given.{Given}
use Rattle.world_runs.specs.Step.{Step}
use Rattle.world_runs.specs.Step.TheVariants as steps
use Rattle.world_runs.specs.Runs.{given_out}
use Rattle.world_runs.specs.Taking.{node_at}
use Rattle.world_runs.specs.Traces.{Answer, Reaches}

-- ---- what stands in a journal

-- A step that was taken, the packet that came by it, if one did, and what it gave out: the packets that it sent, and all else.
pub record Done : Type 0 where
  pub step : Step
  pub packet : Option Packet
  pub given : Given
  pub sent : List Packet

-- A node stopped in the save of a packet's step: the number of the packet, and whether the save was made.
pub record Unfinished : Type 0 where
  pub number : ℕ
  pub found : Found

-- One of a start anew names the save that the node had not finished, if there is one. The packet of the entry is then the one that it was saved for.
pub record Entry : Type 0 where
  pub done : Done
  pub unfinished : Option Unfinished

-- Such an entry stands for two steps, by which nothing goes out: the node stops as the packet comes, and starts anew.
abbrev pub stop_of : Done → Unfinished → Done
stop_of done save = record done { step = steps.Crash (node_at done.step) save.number save.found }

abbrev pub steps_for : Done → Option Unfinished → List Done
steps_for done None = done ∷ []
steps_for done (Some save) = stop_of done save ∷ done ∷ []

abbrev pub done_in : List Entry → List Done
done_in entries = flat_map (λ entry. steps_for entry.done entry.unfinished) entries

abbrev pub steps_done : List Entry → List Step
steps_done entries = map (λ done. done.step) (done_in entries)

abbrev pub answers_given : List Entry → List Answer
answers_given entries = map (λ done. Ok done.given) (done_in entries)

abbrev pub packets_sent : List Entry → List Packet
packets_sent entries = flat_map (λ done. done.sent) (done_in entries)

-- those of one node
abbrev pub entries_at : ℕ → List Entry → List Entry
entries_at node entries = filter (λ entry. node_at entry.done.step == node) entries

-- ---- the run of one node

-- What comes to a node that keeps this: at a start anew any incarnations may be lost, by starts that failed.
abbrev pub ComesBy : Setup → Kept → Step → Option Packet → Input → Type 0
ComesBy setup k (steps.Deliver number node) packet input = option_map Delivery packet ≡ Some input
ComesBy setup k (steps.Request node account request) packet input = input ≡ requested setup k account request
ComesBy setup k (steps.Tick node moment reach) packet input = input ≡ Tick moment (reach_of reach)
ComesBy setup k (steps.Grant node id) packet input = input ≡ Grant (known_slot k id)
ComesBy setup k (steps.Answered node slot outcome) packet input = input ≡ Response slot (outcome_kept outcome)
ComesBy setup k (steps.Crash node number found) packet input = option_map (λ came. Crash came (is_after found)) packet ≡ Some input
ComesBy setup k (steps.Restart node) packet input = (lost : ℕ) × (input ≡ Restart lost)

abbrev pub outputs_done : Done → Outputs
outputs_done done = record (given_out done.given) { packets = done.sent }

-- what comes by it may come to the node, which gives out what stands there
pub record IsOwnStep (setup : Setup) (k : Kept) (done : Done) : Type 0 where
  pub input : Input
  pub comes : ComesBy setup k done.step done.packet input
  pub up : IsUpFor k input
  pub may : MayCome setup k input
  pub gives : (stepped setup k input).outputs ≡ outputs_done done
  pub count : done.given.packets ≡ length done.sent

-- From what a node keeps these steps are its own run, the first of them first, and lead to what it keeps at last.
abbrev pub IsOwnRun : Setup → Kept → List Done → Kept → Type 0
IsOwnRun setup k [] last = last ≡ k
IsOwnRun setup k (done ∷ later) last = (taken : IsOwnStep setup k done) × IsOwnRun setup (stepped setup k taken.input).kept later last

-- ---- the packets between them

-- a packet that comes is the one that has its number, behind so many that have none, among those that were sent, the newest first
abbrev pub HasItsNumber : ℕ → List Packet → ℕ → Packet → Type 0
HasItsNumber behind sent number packet = (1 ≤ number) × HasNumber sent (number + behind) packet

abbrev pub CameAsSent : ℕ → List Packet → Step → Packet → Type 0
CameAsSent behind sent (steps.Deliver number node) packet = HasItsNumber behind sent number packet
CameAsSent behind sent (steps.Crash node number found) packet = HasItsNumber behind sent number packet
CameAsSent behind sent other packet = Unit {0}

-- so is each of them, where these were sent before
abbrev pub WereSent : ℕ → List Packet → List Done → Type 0
WereSent behind sent [] = Unit {0}
WereSent behind sent (done ∷ later) = IfSome done.packet (CameAsSent behind sent done.step) × WereSent behind (reverse done.sent ++ sent) later

-- ---- the journal

abbrev pub IsInRange : Cluster → ℕ → Type 0
IsInRange cluster node = (1 ≤ node) × (node ≤ cluster.nodes)

-- From where these inputs led a cluster of at most nine nodes, the newest first, and behind packets that the journal does not number: each entry is of a
-- node of the cluster; each node's entries are its own run, from what it keeps there; and each packet that comes was sent before.
pub record IsJournal (cluster : Cluster) (behind : List Packet) (inputs : List NodeInput) (entries : List Entry) (ends : ℕ → Kept) : Type 0 where
  pub few : cluster.nodes ≤ 9
  pub may : MayHappen cluster inputs
  pub nodes : (entry : Entry) → In entry entries → IsInRange cluster (node_at entry.done.step)
  pub own : (node : ℕ) → IsInRange cluster node →
      IsOwnRun (setup_of cluster node) ((kept_reached cluster inputs).kept node) (done_in (entries_at node entries)) (ends node)
  pub sent : WereSent (length behind) (kept_reached cluster inputs).packets (done_in entries)

-- The run goes on by these steps, with what they gave, to where each node keeps what its own run leaves, and all that was sent.
pub record RunsOn (cluster : Cluster) (behind : List Packet) (inputs : List NodeInput) (entries : List Entry) (ends : ℕ → Kept) : Type 0 where
  pub last : List NodeInput
  pub reaches : Reaches cluster behind inputs (steps_done entries) (answers_given entries) last
  pub may : MayHappen cluster last
  pub kept : (node : ℕ) → IsInRange cluster node → (kept_reached cluster last).kept node ≡ ends node
  pub packets : (kept_reached cluster last).packets ≡ reverse (packets_sent entries) ++ (kept_reached cluster inputs).packets
