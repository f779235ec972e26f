-- A journal as it is closed: what is compared, and what is left (own).
use Rattle.std.specs.Prelude.{◌≡◌, ℕ, zero, suc, ◌+◌, ◌≤◌, ◌<◌, false, List, [], ◌∷◌, ◌++◌, length, slice_get, Option, Some, None}
use Rattle.mc_model.specs.synod.Lists.{In}
use Rattle.mc_model.specs.synod.Packet.{Packet}
use Rattle.mc_model.specs.cluster.Steps.{Cluster, setup_of}
use Rattle.node_model.specs.Kept.{Kept}
use Rattle.node_core.specs.Keeping.{kept_of}
use Rattle.node_laws.specs.Clusters.{NodeInput}
use Rattle.stable_store.specs.Stored.{Stored}
use Rattle.journal_laws.specs.Journals.{Entry, IsOwnRun, done_in, entries_at, packets_sent}
use Rattle.journal_laws.specs.Likeness.{AreAlike}
use Rattle.journal_laws.specs.Parts.{IsPart, LeadTo}
use Rattle.journal_parts.specs.declared.carried.Carried.{Carried}
use Rattle.journal_parts.specs.declared.noted.Noted.{Noted}
use Rattle.journal_parts.specs.Members.{Posted, packet_halted}
use Rattle.journal_parts.specs.Numbers.{HaveNumbers, Numbers}
use Rattle.journal_parts.specs.Registers.{IsRegister, entries_of}
use Rattle.journal_parts.specs.Slips.{Seated, Slipped}

-- ---- the slips of the seats

-- A slip has the number of the entry that it is of, from 1, and tells how many packets had numbers before it.
pub record StandsAt (before : ℕ) (entries : List Entry) (slip : Slipped) : Type 0 where
  pub older : List Entry
  pub entry : Entry
  pub newer : List Entry
  pub split : entries ≡ older ++ entry ∷ newer
  pub number : slip.number ≡ length older + 1
  pub packets : slip.before ≡ before + length (packets_sent older)
  pub same : AreAlike entry slip.entry

-- So do those of a seat, and their numbers rise, from above this one.
abbrev pub StandAbove : ℕ → ℕ → List Entry → List Slipped → Type 0
StandAbove last before entries [] = Unit {0}
StandAbove last before entries (slip ∷ later) = (last < slip.number) × StandsAt before entries slip × StandAbove slip.number before entries later

-- and those of all seats
abbrev pub AllStand : ℕ → List Entry → List Seated → Type 0
AllStand before entries [] = Unit {0}
AllStand before entries (seat ∷ later) = StandAbove 0 before entries seat.slips × AllStand before entries later

-- ---- the own entries of the nodes

-- The entries of a node in the journal are its own run, unless its store is in doubt; and if it is not astray, it keeps what they lead to.
pub record IsFound {S : Type 0} (stored : S → Stored) (cluster : Cluster) (kept : ℕ → Kept) (entries : List Entry) (node : ℕ) (post : Posted S) : Type 0 where
  pub setup : post.node.kept.setup ≡ setup_of cluster node
  pub few : cluster.nodes ≤ 9
  pub halts : post.node.unfinished ≡ packet_halted post.halted
  pub ends : Kept
  pub runs : (stored post.node.store).doubt ≡ 0 → IsOwnRun (setup_of cluster node) (kept node) (done_in (entries_at node entries)) ends
  pub is_end : post.astray ≡ false → ends ≡ kept_of post.node.kept

-- so are those of the nodes behind this one
abbrev pub AllFound : {S : Type 0} → (S → Stored) → Cluster → (ℕ → Kept) → List Entry → ℕ → List (Posted S) → Type 0
AllFound stored cluster kept entries node [] = Unit {0}
AllFound stored cluster kept entries node (post ∷ later) =
    IsFound stored cluster kept entries (node + 1) post × AllFound stored cluster kept entries (node + 1) later

-- ---- what is left

-- the entries with their numbers, the packets of earlier parts that may still come, how many packets have numbers, and the nodes, node 1 first
pub record Closed (S : Type 0) : Type 0 where
  pub noted : List Noted
  pub carried : List Carried
  pub sent : ℕ
  pub posts : List (Posted S)

-- the entry with this number, from 1
abbrev pub entry_at : List Entry → ℕ → Option Entry
entry_at entries zero = None
entry_at entries (suc place) = slice_get entries place

abbrev pub entries_in : {S : Type 0} → Closed S → List Entry
entries_in closed = entries_of closed.noted

-- the disk of no node returned what nobody wrote
abbrev pub AreSure : {S : Type 0} → (S → Stored) → List (Posted S) → Type 0
AreSure {S} stored posts = (post : Posted S) → In post posts → (stored post.node.store).doubt ≡ 0

-- Behind this, a journal is closed: each node of the cluster is there at its place, and the entries are a part of a journal, whichever packets have numbers
-- where it begins, and lead to what each node keeps that is not astray.
pub record IsClosed {S : Type 0} (stored : S → Stored) (cluster : Cluster) (kept : ℕ → Kept) (numbers : Numbers) (closed : Closed S) : Type 0 where
  pub register : IsRegister cluster numbers closed.noted closed.carried closed.sent
  pub count : length closed.posts ≡ cluster.nodes
  pub setups : (place : ℕ) (post : Posted S) → slice_get closed.posts place ≡ Some post → post.node.kept.setup ≡ setup_of cluster (place + 1)
  pub halts : (post : Posted S) → In post closed.posts → post.node.unfinished ≡ packet_halted post.halted
  pub ends : ℕ → Kept
  pub part : AreSure stored closed.posts → (packets : List Packet) → HaveNumbers numbers packets → IsPart cluster kept packets (entries_in closed) ends
  pub lasts : (post : Posted S) → In post closed.posts → post.astray ≡ false → ends post.node.kept.setup.node ≡ kept_of post.node.kept

-- Unless a disk returned what nobody wrote, this is so behind each run that leads to where the journal begins.
abbrev pub Behind : {S : Type 0} → (S → Stored) → Cluster → (ℕ → Kept) → Numbers → Closed S → (List Packet → List NodeInput → Type 0) → Type 0
Behind stored cluster kept numbers closed so =
    AreSure stored closed.posts → (packets : List Packet) → HaveNumbers numbers packets → (behind : List Packet) (inputs : List NodeInput) →
    LeadTo cluster behind inputs kept packets → so behind inputs
