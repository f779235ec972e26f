-- A journal that goes on with another part of the same run (own).
use Rattle.std.specs.Prelude.{◌≡◌, ◌==◌, ℕ, false, List, [], ◌∷◌, ◌++◌, length, reverse, if◌then◌else◌}
use Rattle.mc_model.specs.synod.Lists.{In}
use Rattle.mc_model.specs.synod.Packet.{Packet}
use Rattle.mc_model.specs.cluster.Steps.{Cluster}
use Rattle.node_model.specs.Kept.{Kept}
use Rattle.node_core.specs.Keeping.{kept_of}
use Rattle.stable_store.specs.Stored.{Stored}
use Rattle.journal_laws.specs.Journals.{packets_sent}
use Rattle.journal_laws.specs.Parts.{IsPart}
use Rattle.journal_parts.specs.Closing.{AreSure, Closed, IsClosed, entries_in}
use Rattle.journal_parts.specs.Members.{IsMember, Posted}
use Rattle.journal_parts.specs.Numbers.{HaveNumbers, Numbers, all_sent_by}

-- ---- the nodes

-- none of them is astray
abbrev pub AreSound : {S : Type 0} → List (Posted S) → Type 0
AreSound {S} posts = (post : Posted S) → In post posts → post.astray ≡ false

-- what the node with this number keeps, if it is one of these
abbrev pub kept_in : {S : Type 0} → Kept → List (Posted S) → ℕ → Kept
kept_in other [] node = other
kept_in other (post ∷ later) node = if post.node.kept.setup.node == node then kept_of post.node.kept else kept_in other later node

-- ---- the packets

-- What has numbers behind a journal: all packets that were sent there, of which those of its entries may come, and those that came to it from earlier parts.
abbrev pub numbers_behind : {S : Type 0} → Closed S → Numbers
numbers_behind closed = record { count = closed.sent; may_come = closed.carried ++ all_sent_by closed.noted }

-- the packets that have them, the newest first, if these have numbers where it begins
abbrev pub numbered_behind : {S : Type 0} → Closed S → List Packet → List Packet
numbered_behind closed packets = reverse (packets_sent (entries_in closed)) ++ packets

-- ---- another part

-- Another part goes on where this one was closed: its nodes keep what they keep there, and all packets that have numbers there keep them.
pub record GoesOn {S : Type 0} (stored : S → Stored) (cluster : Cluster) (kept : ℕ → Kept) (numbers : Numbers) (closed : Closed S) : Type 0 where
  pub count : length closed.posts ≡ cluster.nodes
  pub members : (post : Posted S) → In post closed.posts → IsMember stored cluster kept post []
  pub numbers_are : numbers ≡ numbers_behind closed

-- A closed journal goes on if no node of it is astray.
abbrev pub ClosedOnesGoOn : {S : Type 0} → (S → Stored) → Type 0
ClosedOnesGoOn {S} stored =
    (cluster : Cluster) (kept : ℕ → Kept) (numbers : Numbers) (closed : Closed S) (other : Kept) → IsClosed stored cluster kept numbers closed →
    AreSound closed.posts → GoesOn stored cluster (kept_in other closed.posts) (numbers_behind closed) closed

-- The entries of a part and of the one that goes on with it are one part, unless a disk returned what nobody wrote.
abbrev pub BothAreOne : {S : Type 0} → (S → Stored) → Type 0
BothAreOne {S} stored =
    (cluster : Cluster) (kept : ℕ → Kept) (numbers : Numbers) (first second : Closed S) (other : Kept) → IsClosed stored cluster kept numbers first →
    AreSure stored first.posts → AreSound first.posts →
    (later : IsClosed stored cluster (kept_in other first.posts) (numbers_behind first) second) → AreSure stored second.posts →
    (packets : List Packet) → HaveNumbers numbers packets →
    IsPart cluster kept packets (entries_in first ++ entries_in second) later.ends
    × HaveNumbers (numbers_behind first) (numbered_behind first packets)
