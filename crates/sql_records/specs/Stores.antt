-- What a store over a connection stores (own).
use Rattle.std.specs.Prelude.{◌≡◌, ℕ, ℤ, pos, Bool, false, Option, Some, None}
use Rattle.mc_model.specs.message.Ids.{IsIncarnation}
use Rattle.mc_model.specs.synod.Acceptor.{Records}
use Rattle.sqlite.specs.Tree.{Trees}
use Rattle.sqlite.specs.State.{State, HasCleanDisk}
use Rattle.sqlite_trees.specs.View.{doubt}
use Rattle.record_rows.specs.Content.{AreLife, AreSlots, Slots}
use Rattle.record_rows.specs.Ours.{IsOurs}
use Rattle.record_rows.specs.Tables.{Layout, life_tree, slots_tree}
use Rattle.stable_store.specs.Stored.{Stored}
use Rattle.sql_records.specs.Standing.{StandFor}

-- the rows of `slots` stand for these records
pub record HasRecords (layout : Layout) (db : Trees) (records : Records) : Type 0 where
  pub slots : Slots
  pub are : AreSlots (db (slots_tree layout)) slots
  pub stand : StandFor slots records

-- the number of the last incarnation, or none if there was none
abbrev pub IsLast : Option ℤ → ℕ → Type 0
IsLast None started = started ≡ 0
IsLast (Some number) started = (number ≡ pos started) × IsIncarnation started

pub record IsStarted (layout : Layout) (db : Trees) (started : ℕ) : Type 0 where
  pub last : Option ℤ
  pub are : AreLife (db (life_tree layout)) last
  pub is : IsLast last started

-- the store takes calls, and its connection has the two tables
pub record Answers (layout : Layout) (s : State) (spent : Bool) : Type 0 where
  pub unspent : spent ≡ false
  pub ours : IsOurs layout s

-- What is stored over a connection, and what an opening after a crash at this moment may find.
abbrev pub stored_over : Layout → State → Bool → ℕ → Stored
stored_over layout s spent failed = record {
  doubt = doubt s.is_clean;
  holds = λ records. HasCleanDisk s → Answers layout s spent × HasRecords layout s.now.trees records;
  has_started = λ started. HasCleanDisk s → Answers layout s spent × IsStarted layout s.now.trees started;
  may_hold = λ records. HasCleanDisk s × (db : Trees) × s.may_leave db × HasRecords layout db records;
  may_have_started = λ started. HasCleanDisk s × (db : Trees) × s.may_leave db × IsStarted layout db started;
  failed = failed;
}
