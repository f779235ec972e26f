-- A part of a journal, by what the nodes keep where it begins, and the packets that have numbers there (own).
use Rattle.std.specs.Prelude.{◌≡◌, ℕ, ◌≤◌, List, ◌++◌}
use Rattle.mc_model.specs.synod.Lists.{In}
use Rattle.mc_model.specs.synod.Packet.{Packet}
use Rattle.mc_model.specs.cluster.Steps.{Cluster, setup_of}
use Rattle.node_model.specs.Kept.{Kept}
use Rattle.node_laws.specs.Clusters.{MayHappen, NodeInput, kept_reached}
use Rattle.world_runs.specs.Taking.{node_at}
use Rattle.journal_laws.specs.Journals.{Entry, IsInRange, IsOwnRun, WereSent, done_in, entries_at}

-- Each entry is of a node of the cluster; each node's entries are its own run, from what it keeps where the part begins; and each packet that comes has its
-- number among those of before, the newest first, and those of earlier entries.
pub record IsPart (cluster : Cluster) (kept : ℕ → Kept) (packets : List Packet) (entries : List Entry) (ends : ℕ → Kept) : Type 0 where
  pub few : cluster.nodes ≤ 9
  pub nodes : (entry : Entry) → In entry entries → IsInRange cluster (node_at entry.done.step)
  pub own : (node : ℕ) → IsInRange cluster node → IsOwnRun (setup_of cluster node) (kept node) (done_in (entries_at node entries)) (ends node)
  pub sent : WereSent 0 packets (done_in entries)

-- These inputs, the newest first, lead a cluster to what the nodes keep there, and to these packets, behind others that have no number.
pub record LeadTo (cluster : Cluster) (behind : List Packet) (inputs : List NodeInput) (kept : ℕ → Kept) (packets : List Packet) : Type 0 where
  pub may : MayHappen cluster inputs
  pub is_kept : (node : ℕ) → IsInRange cluster node → (kept_reached cluster inputs).kept node ≡ kept node
  pub are_sent : (kept_reached cluster inputs).packets ≡ packets ++ behind
