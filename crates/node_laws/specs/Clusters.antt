-- A cluster of nodes by what they keep, and the packets between them.
use Rattle.std.specs.Prelude.{◌≡◌, ◌⊎◌, ℕ, ◌≤◌, ◌==◌, List, [], ◌∷◌, ◌++◌, count_by, flat_map, map, reverse, Some}
use Rattle.mc_model.specs.message.Decree.{Attempt, Decree, Delivered, Fate, Final}
use Rattle.mc_model.specs.message.Chain.{final_in, untold}
use Rattle.mc_model.specs.synod.Lists.{In}
use Rattle.mc_model.specs.synod.Packet.{Packet, Slot, slot_of}
use Rattle.mc_model.specs.node.Alone.{opened_new as node_new, reached_alone}
use Rattle.mc_model.specs.node.Input.{Crash, Delivery, Grant, Input, Response, Restart}
use Rattle.mc_model.specs.node.Outcome.{Concluded}
use Rattle.mc_model.specs.node.Outputs.{Outputs, Receipt, Reply, outputs_of}
use Rattle.mc_model.specs.cluster.Fate.{shown_by}
use Rattle.mc_model.specs.cluster.Assembly.{acts_of}
use Rattle.mc_model.specs.cluster.Steps.{AreSteps, Cluster, Step, acts_in, setup_of}
use Rattle.mc_model.specs.cluster.World.{World, changed, reached, start}
use Rattle.node_model.specs.Kept.{Kept}
use Rattle.node_model.specs.Outputs.{Stepped}
use Rattle.node_model.specs.Stepped.{opened_new, stepped}
use Rattle.node_laws.specs.Runs.{IsOneOf, IsUpFor, MayCome}
use Rattle.node_laws.specs.Stands.{Stands}

-- what each node keeps, and every packet that was ever sent, the newest first
pub record KeptCluster : Type 0 where
  pub kept : ℕ → Kept
  pub packets : List Packet

-- what comes to which node
pub record NodeInput : Type 0 where
  pub node : ℕ
  pub input : Input

abbrev pub comes_to : ℕ → Input → NodeInput
comes_to node input = record { node = node; input = input }

-- so many nodes, whose first messages have this serial, and are valid for so many seconds if they do not say
abbrev pub cluster_with : ℕ → ℕ → ℕ → Cluster
cluster_with nodes serial validity = record { nodes = nodes; serials = λ node. serial; validities = λ node. validity }

-- all nodes open with new stores
abbrev pub kept_start : Cluster → KeptCluster
kept_start cluster = record { kept = λ node. opened_new (setup_of cluster node); packets = [] }

abbrev pub step_at : Cluster → KeptCluster → NodeInput → Stepped
step_at cluster w next = stepped (setup_of cluster next.node) (w.kept next.node) next.input

abbrev pub kept_next : KeptCluster → ℕ → Stepped → KeptCluster
kept_next w node step = record {
  kept = changed w.kept node step.kept;
  packets = reverse step.outputs.packets ++ w.packets;
}

-- where inputs lead it, the newest first
abbrev pub kept_reached : Cluster → List NodeInput → KeptCluster
kept_reached cluster [] = kept_start cluster
kept_reached cluster (newest ∷ older) =
    kept_next (kept_reached cluster older) newest.node (step_at cluster (kept_reached cluster older) newest)

-- a packet that comes was sent, to whomever
abbrev pub WasSentBefore : List Packet → Input → Type 0
WasSentBefore packets (Delivery packet) = In packet packets
WasSentBefore packets (Crash packet after) = In packet packets
WasSentBefore packets input = Unit {0}

-- what this gives out, behind these
abbrev pub outputs_at : Cluster → List NodeInput → NodeInput → Outputs
outputs_at cluster inputs next = (step_at cluster (kept_reached cluster inputs) next).outputs

-- Packets may be lost, repeated and reordered, and nodes may stop and start anew: any input may come that may come to the node, and
-- whose packet was sent.
abbrev pub MayHappen : Cluster → List NodeInput → Type 0
MayHappen cluster [] = Unit {0}
MayHappen cluster (newest ∷ older) =
    IsOneOf (setup_of cluster newest.node)
    × IsUpFor ((kept_reached cluster older).kept newest.node) newest.input
    × MayCome (setup_of cluster newest.node) ((kept_reached cluster older).kept newest.node) newest.input
    × WasSentBefore (kept_reached cluster older).packets newest.input
    × MayHappen cluster older

-- ---- as a run of the model

abbrev pub cluster_outputs : Cluster → List NodeInput → List Outputs
cluster_outputs cluster [] = []
cluster_outputs cluster (newest ∷ older) =
    (step_at cluster (kept_reached cluster older) newest).outputs ∷ cluster_outputs cluster older

abbrev pub world_at : Cluster → List Step → World
world_at cluster steps = reached (start cluster.nodes cluster.serials) (acts_in steps)

abbrev pub step_outputs : Cluster → List Step → List Outputs
step_outputs cluster [] = []
step_outputs cluster (newest ∷ older) =
    outputs_of newest.node ((world_at cluster older).actors newest.node) ((world_at cluster older).records newest.node) newest.input newest.acts
    ∷ step_outputs cluster older

-- By exact steps of the same inputs the cluster of the model sends the same packets and gives out the same, and what each node keeps
-- stands for what its actor remembers.
pub record RunsTogether (cluster : Cluster) (inputs : List NodeInput) : Type 0 where
  pub steps : List Step
  pub inputs_are : map (λ step. record { node = step.node; input = step.input }) steps ≡ inputs
  pub are : AreSteps cluster (start cluster.nodes cluster.serials) steps
  pub packets : (kept_reached cluster inputs).packets ≡ (world_at cluster steps).packets
  pub outputs : cluster_outputs cluster inputs ≡ step_outputs cluster steps
  pub stands : (node : ℕ) → Stands (setup_of cluster node) ((kept_reached cluster inputs).kept node)
      (reached_alone node (node_new (cluster.serials node)) (acts_of node (acts_in steps)))

-- ---- what is stated

-- a query_sm_resp, or a cancel_sm_resp with ESME_ROK, tells of a chain of a message
pub record RepliesWith (outputs : Outputs) (id : ℕ) (chain : List Decree) : Type 0 where
  pub reply : Reply
  pub among : In reply outputs.replies
  pub about : reply.id ≡ id
  pub shown : shown_by reply.answer ≡ Some chain

-- so does a receipt, and one of them tells of a final state
pub record StatesFinal (outputs : Outputs) (id : ℕ) (final : Final) : Type 0 where
  pub chain : List Decree
  pub tells : RepliesWith outputs id chain ⊎ In (record { id = id; chain = chain }) outputs.receipts
  pub state : final_in chain ≡ Some final

-- all receipts that are given out
abbrev pub receipts_given : List Outputs → List Receipt
receipts_given given = flat_map (λ outputs. outputs.receipts) given

-- of each message_id there is one at most
abbrev pub OneOfEach : List Receipt → Type 0
OneOfEach receipts = (id : ℕ) → count_by (λ receipt. receipt.id == id) receipts ≤ 1

-- an attempt of a message is granted
pub record GrantsOut (outputs : Outputs) (id : ℕ) : Type 0 where
  pub slot : Slot
  pub granted : outputs.granted ≡ Some slot
  pub about : slot.id ≡ id

-- of what is given out, the newest first, one came before another
pub record CameEarlier (first second : Outputs) (given : List Outputs) : Type 0 where
  pub newer : List Outputs
  pub older : List Outputs
  pub split : given ≡ newer ++ second ∷ older
  pub before : In first older

-- a node does not start anew as these come
abbrev pub LivesOn : ℕ → List NodeInput → Type 0
LivesOn node inputs = (lost : ℕ) → In (comes_to node (Restart lost)) inputs → ⊥

-- of inputs, the newest first, one came to a node, and later, in the same life of the node, another
pub record CameInOneLife (node : ℕ) (first second : Input) (inputs : List NodeInput) : Type 0 where
  pub newer : List NodeInput
  pub middle : List NodeInput
  pub older : List NodeInput
  pub split : inputs ≡ newer ++ comes_to node second ∷ (middle ++ comes_to node first ∷ older)
  pub lives : LivesOn node middle

-- A chain ends in the fate DELIVERED, told or not, behind an attempt of the same author. As these inputs came, the newest first, that attempt was granted at
-- its author's node, and then, in the same life of the node, answered there by ESME_ROK.
pub record IsDeliveredBy (id : ℕ) (chain : List Decree) (inputs : List NodeInput) : Type 0 where
  pub fate : Decree
  pub attempt : Decree
  pub older : List Decree
  pub number : ℕ
  pub chain_is : untold chain ≡ fate ∷ attempt ∷ older
  pub attempted : attempt.kind ≡ Attempt number
  pub delivered : fate.kind ≡ Fate Delivered 0
  pub author : fate.author ≡ attempt.author
  pub granted : CameInOneLife attempt.author.node (Grant (slot_of id (attempt ∷ older)))
      (Response (slot_of id (attempt ∷ older)) (Concluded Delivered 0)) inputs
