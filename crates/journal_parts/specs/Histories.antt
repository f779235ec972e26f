-- Parts of a journal, one behind the other, as one that goes on again and again has them (own).
use Rattle.std.specs.Prelude.{ℕ, zero, suc, List, ◌++◌}
use Rattle.mc_model.specs.synod.Packet.{Packet}
use Rattle.mc_model.specs.cluster.Steps.{Cluster}
use Rattle.node_model.specs.Kept.{Kept}
use Rattle.node_laws.specs.Clusters.{NodeInput}
use Rattle.stable_store.specs.Stored.{Stored}
use Rattle.journal_laws.specs.Journals.{Entry}
use Rattle.journal_laws.specs.Parts.{IsPart, LeadTo}
use Rattle.journal_laws.specs.Telling.{KeepsItsPromises}
use Rattle.journal_parts.specs.Closing.{AreSure, Closed, IsClosed, entries_in}
use Rattle.journal_parts.specs.GoingOn.{AreSound, kept_in, numbers_behind}
use Rattle.journal_parts.specs.Numbers.{HaveNumbers, Numbers}

-- A journal is closed behind so many parts that were closed before it: the first began with this, and each other one went on where the one before was closed,
-- with no node astray.
abbrev pub ClosesParts : {S : Type 0} → (S → Stored) → Cluster → (ℕ → Kept) → Numbers → ℕ → Closed S → Type 0
ClosesParts stored cluster kept numbers zero closed = IsClosed stored cluster kept numbers closed
ClosesParts {S} stored cluster kept numbers (suc parts) closed =
    (before : Closed S) × (other : Kept) × ClosesParts stored cluster kept numbers parts before × AreSound before.posts
    × IsClosed stored cluster (kept_in other before.posts) (numbers_behind before) closed

module _ {S : Type 0} (stored : S → Stored) (cluster : Cluster) (kept : ℕ → Kept) (numbers : Numbers) where
  -- the entries of all of them
  abbrev pub entries_of_all : (parts : ℕ) (closed : Closed S) → ClosesParts stored cluster kept numbers parts closed → List Entry
  entries_of_all zero closed closes = entries_in closed
  entries_of_all (suc parts) closed (before, other, earlier, sound, closes) = entries_of_all parts before earlier ++ entries_in closed

  -- no disk returned what nobody wrote, in any of them
  abbrev pub AreSureInAll : (parts : ℕ) (closed : Closed S) → ClosesParts stored cluster kept numbers parts closed → Type 0
  AreSureInAll zero closed closes = AreSure stored closed.posts
  AreSureInAll (suc parts) closed (before, other, earlier, sound, closes) = AreSureInAll parts before earlier × AreSure stored closed.posts

  -- Unless a disk returned what nobody wrote, they keep all promises together with each run that leads to where the first of them began.
  abbrev pub KeepPromisesInAll : (parts : ℕ) (closed : Closed S) → ClosesParts stored cluster kept numbers parts closed → Type 0
  KeepPromisesInAll parts closed closes =
      AreSureInAll parts closed closes → (packets : List Packet) → HaveNumbers numbers packets → (behind : List Packet) (inputs : List NodeInput) →
      LeadTo cluster behind inputs kept packets → KeepsItsPromises cluster behind inputs (entries_of_all parts closed closes)

-- The entries of all parts are one part, unless a disk returned what nobody wrote.
abbrev pub AllPartsAreOne : {S : Type 0} → (S → Stored) → Type 0
AllPartsAreOne {S} stored =
    (cluster : Cluster) (kept : ℕ → Kept) (numbers : Numbers) (parts : ℕ) (closed : Closed S)
    (closes : ClosesParts stored cluster kept numbers parts closed) → AreSureInAll stored cluster kept numbers parts closed closes →
    (packets : List Packet) → HaveNumbers numbers packets →
    (ends : ℕ → Kept) × IsPart cluster kept packets (entries_of_all stored cluster kept numbers parts closed closes) ends

-- And they keep all promises.
abbrev pub AllPartsKeepPromises : {S : Type 0} → (S → Stored) → Type 0
AllPartsKeepPromises {S} stored =
    (cluster : Cluster) (kept : ℕ → Kept) (numbers : Numbers) (parts : ℕ) (closed : Closed S)
    (closes : ClosesParts stored cluster kept numbers parts closed) → KeepPromisesInAll stored cluster kept numbers parts closed closes

-- A journal is closed behind some parts, with which it keeps them.
abbrev pub ClosesKept : {S : Type 0} → (S → Stored) → Cluster → (ℕ → Kept) → Numbers → Closed S → Type 0
ClosesKept stored cluster kept numbers closed =
    (parts : ℕ) × (closes : ClosesParts stored cluster kept numbers parts closed) × KeepPromisesInAll stored cluster kept numbers parts closed closes
