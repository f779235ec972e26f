-- What a call on the rows of a connection leaves of the records and of the last incarnation (own).
use Rattle.std.specs.Prelude.{◌≡◌, ◌≤◌, ℕ, ◌+◌, List}
use Rattle.mc_model.specs.synod.Acceptor.{Records, with_record}
use Rattle.synod_acceptor.specs.declared.record.Change.{Change}
use Rattle.synod_acceptor.specs.Votes.{Record, record_of, slot_recorded}
use Rattle.sqlite.specs.Tree.{Trees}
use Rattle.sqlite.specs.State.{State}
use Rattle.record_rows.specs.Ours.{IsOurs}
use Rattle.record_rows.specs.Tables.{Layout, life_tree, slots_tree}
use Rattle.stable_store.specs.Stored.{changed_all}
use Rattle.sql_records.specs.Stores.{HasRecords, IsStarted}

-- these trees hold what was there with the record in place of that of its slot
pub record PutsRecord (kept : Record) (old : State) (db : Trees) : Type 0 where
  pub records : (layout : Layout) (records : Records) → IsOurs layout old → HasRecords layout old.now.trees records
      → HasRecords layout db (with_record records (slot_recorded kept) (record_of kept))
  pub life : (layout : Layout) → IsOurs layout old → db (life_tree layout) ≡ old.now.trees (life_tree layout)

pub record HasPutRecord (kept : Record) (old new : State) : Type 0 where
  pub puts : PutsRecord kept old new.now.trees
  pub ours : (layout : Layout) → IsOurs layout old → IsOurs layout new

-- the same with the records of all changes of a group, in their order
pub record PutsAll (changes : List Change) (old : State) (db : Trees) : Type 0 where
  pub records : (layout : Layout) (records : Records) → IsOurs layout old → HasRecords layout old.now.trees records
      → HasRecords layout db (changed_all changes records)
  pub life : (layout : Layout) → IsOurs layout old → db (life_tree layout) ≡ old.now.trees (life_tree layout)

pub record HasPutAll (changes : List Change) (old new : State) : Type 0 where
  pub puts : PutsAll changes old new.now.trees
  pub ours : (layout : Layout) → IsOurs layout old → IsOurs layout new

-- these trees hold the next incarnation, and the slots as they were
pub record PutsNext (old : State) (db : Trees) : Type 0 where
  pub started : (layout : Layout) (started : ℕ) → IsOurs layout old → IsStarted layout old.now.trees started → IsStarted layout db (started + 1)
  pub slots : (layout : Layout) → IsOurs layout old → db (slots_tree layout) ≡ old.now.trees (slots_tree layout)

-- this is the next incarnation, and it is stored
pub record HasPutNext (next : ℕ) (old new : State) : Type 0 where
  pub follows : (layout : Layout) (started : ℕ) → IsOurs layout old → IsStarted layout old.now.trees started → next ≡ started + 1
  pub started : (layout : Layout) → IsOurs layout old → IsStarted layout new.now.trees next
  pub slots : (layout : Layout) → IsOurs layout old → new.now.trees (slots_tree layout) ≡ old.now.trees (slots_tree layout)
  pub ours : (layout : Layout) → IsOurs layout old → IsOurs layout new

-- no records, and no last incarnation
abbrev pub HoldsNone : State → Type 0
HoldsNone s = (layout : Layout) (records : Records) → IsOurs layout s → HasRecords layout s.now.trees records → ⊥

abbrev pub HasNotStarted : State → Type 0
HasNotStarted s = (layout : Layout) (started : ℕ) → IsOurs layout s → IsStarted layout s.now.trees started → ⊥

-- all incarnations were used
abbrev pub HasStartedAll : State → Type 0
HasStartedAll s = (layout : Layout) (started : ℕ) → IsOurs layout s → IsStarted layout s.now.trees started → 9999 ≤ started
