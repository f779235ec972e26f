-- The nodes of a cluster that open over their stores, and where their journal begins then (own).
use Rattle.std.specs.Prelude.{◌≡◌, ◌≢◌, ◌⊎◌, ℕ, ◌+◌, ◌-◌, ◌<◌, Bool, List, ◌∷◌, ◌++◌, length, Option, Some, None}
use Rattle.std.specs.List.{slice_get}
use Rattle.mc_model.specs.node.Setup.{Setup}
use Rattle.mc_model.specs.cluster.Steps.{Cluster, setup_of}
use Rattle.mc_model.specs.synod.Lists.{In}
use Rattle.node_model.specs.Kept.{Kept}
use Rattle.node_model.specs.Stepped.{opened_new}
use Rattle.node_laws.specs.Clusters.{NodeInput, cluster_with, kept_reached}
use Rattle.stable_store.specs.Stored.{Stored}
use Rattle.stable_store.specs.declared.fault.StoreFault.{StoreFault}
use Rattle.stable_store.specs.declared.fault.StoreFault.TheVariants as faults
use Rattle.node_core.specs.declared.life.Life.{Life}
use Rattle.node_core.specs.Keeping.{kept_of}
use Rattle.node_core.specs.Nodes.{FailsToOpen, OpensOver, Standing}
use Rattle.node_core.specs.Setups.{setup_with}
use Rattle.journal_parts.specs.OldStores.{kept_opened}
use Rattle.journal_parts.specs.Openings.{IsAsLeft, IsNew}
use Rattle.node_threads.specs.Actions.{AllBegin}
use Rattle.node_threads.specs.Defaults.{Defaults}
use Rattle.node_threads.specs.declared.start_fault.StartFault.{StartFault}
use Rattle.node_threads.specs.declared.start_fault.StartFault.TheVariants as starts

-- ---- the opening

-- It opened over this store; no packet is unfinished, and it tells of none.
pub record IsOpened {S : Type 0} (stored : S → Stored) (with : Setup) (store : S) (node : Standing S) (life : Life) : Type 0 where
  pub over : OpensOver (stored store) with (stored node.store) node life
  pub finished : node.unfinished ≡ None
  pub untold : node.stopped ≡ None

-- Of so many nodes the first opened, one over each of these stores: node n and its life stand where its store does, at the place n - 1. Each incarnation begins
-- with the serial that is handed in, and a message that does not say it is valid for as long as is.
pub record AreOpened {S : Type 0} (stored : S → Stored) (count : ℕ) (defaults : Defaults) (stores : List S) (nodes : List (Standing S)) (lives : List Life) : Type 0 where
  pub nodes_are : length nodes ≡ length stores
  pub lives_are : length lives ≡ length stores
  pub each : (place : ℕ) (store : S) (node : Standing S) (life : Life) → slice_get stores place ≡ Some store → slice_get nodes place ≡ Some node →
      slice_get lives place ≡ Some life → IsOpened stored (setup_with (place + 1) count defaults.first_serial defaults.default_validity) store node life

-- The node with this number did not open over its store, for this reason, which is not want of memory; those before it did over theirs.
pub record FailsAt {S : Type 0} (stored : S → Stored) (defaults : Defaults) (stores : List S) (number : ℕ) (fault : StoreFault) : Type 0 where
  pub older : List S
  pub store : S
  pub newer : List S
  pub split : stores ≡ older ++ store ∷ newer
  pub number_is : number ≡ length older + 1
  pub nodes : List (Standing S)
  pub lives : List Life
  pub before : AreOpened stored (length stores) defaults older nodes lives
  pub known : fault ≢ faults.Memory
  pub after : S
  pub fails : FailsToOpen fault (stored store) (stored after)

-- there is no store, or there are more than nine
abbrev pub AreNotNodes : {S : Type 0} → List S → Type 0
AreNotNodes stores = (length stores < 1) ⊎ (9 < length stores)

-- why the nodes of these stores do not start
abbrev pub CantStart : {S : Type 0} → (S → Stored) → Defaults → List S → StartFault → Type 0
CantStart stored defaults stores (starts.Open number fault) = FailsAt stored defaults stores number fault
CantStart stored defaults stores starts.Nodes = AreNotNodes stores
CantStart stored defaults stores starts.Memory = Unit {0}

-- what is told if a store tells this of a node
abbrev pub fault_at : ℕ → StoreFault → StartFault
fault_at node faults.Device = starts.Open node faults.Device
fault_at node faults.Damaged = starts.Open node faults.Damaged
fault_at node faults.Incarnations = starts.Open node faults.Incarnations
fault_at node faults.Memory = starts.Memory

-- why the node of this store does not open
abbrev pub CantOpen : {S : Type 0} → (S → Stored) → ℕ → S → StartFault → Type 0
CantOpen {S} stored node store (starts.Open number fault) =
    (number ≡ node) × (fault ≢ faults.Memory) × (after : S) × FailsToOpen fault (stored store) (stored after)
CantOpen stored node store starts.Nodes = ⊥
CantOpen stored node store starts.Memory = Unit {0}

-- ---- where their journal begins

-- the cluster that these nodes are
abbrev pub cluster_of : {S : Type 0} → List (Standing S) → Defaults → Cluster
cluster_of nodes defaults = cluster_with (length nodes) defaults.first_serial defaults.default_validity

-- the setup of each is that of its place
abbrev pub StandInOrder : {S : Type 0} → Cluster → List (Standing S) → Type 0
StandInOrder {S} cluster nodes =
    (place : ℕ) (node : Standing S) → slice_get nodes place ≡ Some node → node.kept.setup ≡ setup_of cluster (place + 1)

abbrev pub kept_or : {S : Type 0} → Kept → Option (Standing S) → Kept
kept_or other None = other
kept_or other (Some node) = kept_of node.kept

-- what the node with this number keeps
abbrev pub kept_at : {S : Type 0} → List (Standing S) → Defaults → ℕ → Kept
kept_at nodes defaults number = kept_or (opened_new (setup_of (cluster_of nodes defaults) number)) (slice_get nodes (number - 1))

abbrev pub AreNew : {S : Type 0} → (S → Stored) → List S → Type 0
AreNew {S} stored stores = (store : S) → In store stores → IsNew (stored store)

-- their disks returned nothing that nobody wrote
abbrev pub AreUndoubted : {S : Type 0} → (S → Stored) → List (Standing S) → Type 0
AreUndoubted {S} stored nodes = (node : Standing S) → In node nodes → (stored node.store).doubt ≡ 0

-- each store is new, or as a run of these nodes left it, of these inputs, the newest first, behind so many incarnations that were lost
abbrev pub AreAsLeft : {S : Type 0} → (S → Stored) → Cluster → List NodeInput → (ℕ → Bool) → (ℕ → ℕ) → List S → Type 0
AreAsLeft {S} stored cluster inputs fresh lost stores =
    (place : ℕ) (store : S) → slice_get stores place ≡ Some store →
    IsAsLeft (fresh (place + 1)) ((kept_reached cluster inputs).kept (place + 1)) (lost (place + 1)) (stored store)

-- Nodes that opened stand in their order.
abbrev pub OpenInOrder : {S : Type 0} → (S → Stored) → Type 0
OpenInOrder {S} stored =
    (defaults : Defaults) (stores : List S) (nodes : List (Standing S)) (lives : List Life) → AreOpened stored (length stores) defaults stores nodes lives →
    StandInOrder (cluster_of nodes defaults) nodes

-- Their journal begins with what they keep; over new stores that is what the model's nodes open with, and over old ones what those start anew with.
abbrev pub BeginAsTheyAre : {S : Type 0} → (S → Stored) → Type 0
BeginAsTheyAre {S} stored =
    (defaults : Defaults) (stores : List S) (nodes : List (Standing S)) (lives : List Life) → AreOpened stored (length stores) defaults stores nodes lives →
    AllBegin (cluster_of nodes defaults) (kept_at nodes defaults) nodes

abbrev pub BeginAsNew : {S : Type 0} → (S → Stored) → Type 0
BeginAsNew {S} stored =
    (defaults : Defaults) (stores : List S) (nodes : List (Standing S)) (lives : List Life) → AreOpened stored (length stores) defaults stores nodes lives →
    AreNew stored stores → AreUndoubted stored nodes →
    AllBegin (cluster_of nodes defaults) (λ node. opened_new (setup_of (cluster_of nodes defaults) node)) nodes

abbrev pub BeginAsLeft : {S : Type 0} → (S → Stored) → Type 0
BeginAsLeft {S} stored =
    (defaults : Defaults) (stores : List S) (nodes : List (Standing S)) (lives : List Life) (inputs : List NodeInput) (fresh : ℕ → Bool) (lost : ℕ → ℕ) →
    AreOpened stored (length stores) defaults stores nodes lives → AreAsLeft stored (cluster_of nodes defaults) inputs fresh lost stores →
    AreUndoubted stored nodes → AllBegin (cluster_of nodes defaults) (kept_opened (cluster_of nodes defaults) inputs fresh lost) nodes
