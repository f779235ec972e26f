-- A journal of nodes that open over stores that are not new (own).
use Rattle.std.specs.Prelude.{◌≡◌, ℕ, zero, suc, ◌+◌, ◌<◌, ◌≤◌, Bool, true, false, List, [], ◌∷◌, if◌then◌else◌}
use Rattle.mc_model.specs.synod.Lists.{In}
use Rattle.mc_model.specs.node.Input.{Input, Restart}
use Rattle.mc_model.specs.cluster.Steps.{Cluster, setup_of}
use Rattle.node_model.specs.Kept.{Kept}
use Rattle.node_model.specs.Stepped.{opened_new, restarted}
use Rattle.node_laws.specs.Clusters.{MayHappen, NodeInput, comes_to, kept_reached}
use Rattle.world_runs.specs.Runs.{last_incarnation}
use Rattle.world_runs.specs.Taking.{node_at}
use Rattle.journal_laws.specs.Journals.{Entry, IsInRange, IsOwnRun, WereSent, done_in, entries_at}

-- The stores that are not new were left by one run of the same nodes, of these inputs, the newest first, in which a node whose store is new took no step.
-- There is an incarnation left for each of the others, behind those that were lost.
pub record AreLeft (cluster : Cluster) (inputs : List NodeInput) (fresh : ℕ → Bool) (lost : ℕ → ℕ) : Type 0 where
  pub few : cluster.nodes ≤ 9
  pub may : MayHappen cluster inputs
  pub untouched : (node : ℕ) (input : Input) → fresh node ≡ true → In (comes_to node input) inputs → ⊥
  pub within : (node : ℕ) → IsInRange cluster node → fresh node ≡ false → ((kept_reached cluster inputs).kept node).incarnation + lost node < last_incarnation

-- what a node keeps as it has opened
abbrev pub kept_opened : Cluster → List NodeInput → (ℕ → Bool) → (ℕ → ℕ) → ℕ → Kept
kept_opened cluster inputs fresh lost node =
    if fresh node then opened_new (setup_of cluster node)
    else restarted (setup_of cluster node) ((kept_reached cluster inputs).kept node) (lost node)

-- nodes 1 to so many start anew, but for those whose stores are new: the newest first
abbrev pub openings : (ℕ → Bool) → (ℕ → ℕ) → ℕ → List NodeInput
openings fresh lost zero = []
openings fresh lost (suc count) =
    if fresh (suc count) then openings fresh lost count else comes_to (suc count) (Restart (lost (suc count))) ∷ openings fresh lost count

-- From what the nodes keep as they have opened, each node's entries are its own run, and each packet that comes was sent by an earlier entry.
pub record IsJournalOver (cluster : Cluster) (inputs : List NodeInput) (fresh : ℕ → Bool) (lost : ℕ → ℕ) (entries : List Entry) (ends : ℕ → Kept) : Type 0 where
  pub left : AreLeft cluster inputs fresh lost
  pub nodes : (entry : Entry) → In entry entries → IsInRange cluster (node_at entry.done.step)
  pub own : (node : ℕ) → IsInRange cluster node →
      IsOwnRun (setup_of cluster node) (kept_opened cluster inputs fresh lost node) (done_in (entries_at node entries)) (ends node)
  pub sent : WereSent 0 [] (done_in entries)
