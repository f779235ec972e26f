-- A closed journal goes on with each run that leads to where it begins.
use Rattle.std.proofs.Common.{ℕ, List}
use Rattle.mc_model.specs.synod.Packet.{Packet}
use Rattle.mc_model.specs.cluster.Steps.{Cluster}
use Rattle.node_laws.specs.Clusters.{NodeInput}
use Rattle.node_model.specs.Kept.{Kept}
use Rattle.stable_store.specs.Stored.{Stored}
use Rattle.journal_parts.specs.Journals.{IsJournal}
use Rattle.journal_parts.specs.Parts.{LeadTo}
use Rattle.journal_parts.proofs.Parts.{journal_of_part}
use Rattle.journal_parts.specs.Closing.{AreSure, Closed, IsClosed, entries_in}
use Rattle.journal_parts.specs.Numbers.{HaveNumbers, Numbers}

pub behind : {S : Type 0} (stored : S → Stored) (cluster : Cluster) (kept : ℕ → Kept) (numbers : Numbers) (closed : Closed S) →
    (is : IsClosed stored cluster kept numbers closed) → AreSure stored closed.posts → (packets : List Packet) → HaveNumbers numbers packets →
    (before : List Packet) (inputs : List NodeInput) → LeadTo cluster before inputs kept packets → IsJournal cluster before inputs (entries_in closed) is.ends
behind stored cluster kept numbers closed is sure packets have before inputs lead =
    journal_of_part cluster before inputs kept packets (entries_in closed) is.ends lead (is.part sure packets have)
