-- The nodes of a cluster that are loaded over their stores, and begin later (own).
use Rattle.std.specs.Prelude.{◌≡◌, ◌≢◌, ℕ, ◌+◌, List, ◌∷◌, ◌++◌, length, Some, None}
use Rattle.std.specs.List.{slice_get}
use Rattle.stable_store.specs.Stored.{Stored}
use Rattle.stable_store.specs.declared.fault.StoreFault.{StoreFault}
use Rattle.stable_store.specs.declared.fault.StoreFault.TheVariants as faults
use Rattle.node_core.specs.declared.life.Life.{Life}
use Rattle.node_core.specs.Loadings.{Begins, FailsToBegin, IsLoaded, Loading}
use Rattle.node_core.specs.Nodes.{FailsToOpen, Standing}
use Rattle.node_core.specs.Setups.{setup_with}
use Rattle.node_threads.specs.Actions.{AllBegin}
use Rattle.node_threads.specs.Defaults.{Defaults}
use Rattle.node_threads.specs.Openings.{AreNotNodes, AreOpened, cluster_of, kept_at}
use Rattle.node_threads.specs.declared.start_fault.StartFault.{StartFault}
use Rattle.node_threads.specs.declared.start_fault.StartFault.TheVariants as starts

-- Of so many nodes the first are loaded, one over each of these stores: node n stands where its store does, at the place n - 1.
pub record AreLoaded {S : Type 0} (stored : S → Stored) (count : ℕ) (defaults : Defaults) (stores : List S) (loaded : List (Loading S)) : Type 0 where
  pub loaded_are : length loaded ≡ length stores
  pub each : (place : ℕ) (store : S) (one : Loading S) → slice_get stores place ≡ Some store → slice_get loaded place ≡ Some one →
      IsLoaded stored (setup_with (place + 1) count defaults.first_serial defaults.default_validity) store one

-- The node with this number was not loaded over its store, for this reason, which is not want of memory; those before it were over theirs.
pub record FailsToLoad {S : Type 0} (stored : S → Stored) (defaults : Defaults) (stores : List S) (number : ℕ) (fault : StoreFault) : Type 0 where
  pub older : List S
  pub store : S
  pub newer : List S
  pub split : stores ≡ older ++ store ∷ newer
  pub number_is : number ≡ length older + 1
  pub loaded : List (Loading S)
  pub before : AreLoaded stored (length stores) defaults older loaded
  pub known : fault ≢ faults.Memory
  pub after : S
  pub fails : FailsToOpen fault (stored store) (stored after)

-- why the nodes of these stores are not loaded
abbrev pub CantLoad : {S : Type 0} → (S → Stored) → Defaults → List S → StartFault → Type 0
CantLoad stored defaults stores (starts.Open number fault) = FailsToLoad stored defaults stores number fault
CantLoad stored defaults stores starts.Nodes = AreNotNodes stores
CantLoad stored defaults stores starts.Memory = Unit {0}

-- ---- the second half

-- over whatever stores these were loaded, they are the nodes of a cluster that opened over them
abbrev pub BeginOver : {S : Type 0} → (S → Stored) → List (Loading S) → List (Standing S) → List Life → Type 0
BeginOver {S} stored loaded nodes lives =
    (defaults : Defaults) (stores : List S) → AreLoaded stored (length stores) defaults stores loaded →
    AreOpened stored (length stores) defaults stores nodes lives

-- and a journal may begin with what they keep
abbrev pub BeginAJournal : {S : Type 0} → (S → Stored) → List (Loading S) → List (Standing S) → Type 0
BeginAJournal {S} stored loaded nodes =
    (defaults : Defaults) (stores : List S) → AreLoaded stored (length stores) defaults stores loaded →
    AllBegin (cluster_of nodes defaults) (kept_at nodes defaults) nodes

-- each of these began; no packet is unfinished, and none tells of one
pub record HaveBegun {S : Type 0} (stored : S → Stored) (loaded : List (Loading S)) (nodes : List (Standing S)) (lives : List Life) : Type 0 where
  pub nodes_are : length nodes ≡ length loaded
  pub lives_are : length lives ≡ length loaded
  pub each : (place : ℕ) (one : Loading S) (node : Standing S) (life : Life) → slice_get loaded place ≡ Some one → slice_get nodes place ≡ Some node →
      slice_get lives place ≡ Some life → Begins stored one node life × (node.unfinished ≡ None) × (node.stopped ≡ None)

-- The node with this number did not begin, for this reason, which is not want of memory; those before it did.
pub record FailsToBeginAt {S : Type 0} (stored : S → Stored) (loaded : List (Loading S)) (number : ℕ) (fault : StoreFault) : Type 0 where
  pub older : List (Loading S)
  pub one : Loading S
  pub newer : List (Loading S)
  pub split : loaded ≡ older ++ one ∷ newer
  pub number_is : number ≡ one.kept.setup.node
  pub nodes : List (Standing S)
  pub lives : List Life
  pub before : HaveBegun stored older nodes lives
  pub known : fault ≢ faults.Memory
  pub after : S
  pub fails : FailsToBegin stored one fault after

-- why these nodes do not begin
abbrev pub CantBegin : {S : Type 0} → (S → Stored) → List (Loading S) → StartFault → Type 0
CantBegin stored loaded (starts.Open number fault) = FailsToBeginAt stored loaded number fault
CantBegin stored loaded starts.Nodes = ⊥
CantBegin stored loaded starts.Memory = Unit {0}

-- why this one does not
abbrev pub CantBeginOne : {S : Type 0} → (S → Stored) → Loading S → StartFault → Type 0
CantBeginOne {S} stored one (starts.Open number fault) =
    (number ≡ one.kept.setup.node) × (fault ≢ faults.Memory) × (after : S) × FailsToBegin stored one fault after
CantBeginOne stored one starts.Nodes = ⊥
CantBeginOne stored one starts.Memory = Unit {0}
