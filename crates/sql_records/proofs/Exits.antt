-- What a stop in a save leaves of a store.
use Rattle.std.proofs.Common.{◌≡◌, ◌⊎◌, inl, inr, ℕ, List, Bool, false, IsTrue, sym, subst, arith}
use Rattle.mc_model.specs.synod.Acceptor.{Records}
use Rattle.synod_acceptor.specs.declared.record.Change.{Change}
use Rattle.sqlite.specs.Tree.{Trees}
use Rattle.sqlite.specs.State.{State, HasCleanDisk, Survives}
use Rattle.record_rows.specs.Ours.{IsOurs}
use Rattle.record_rows.specs.Tables.{Layout, life_tree}
use Rattle.stable_store.specs.Stored.{AreSame, LeavesSaved, LeavesSavedAll, changed, changed_all}
use Rattle.sql_records.specs.Calls.{PutsAll, PutsRecord}
use Rattle.sql_records.specs.Stores.{HasRecords, IsStarted, stored_over}
use Rattle.sql_records.proofs.Laws.{records_of_one, trees_committed}

-- a call that may commit trees with these records in place of the old ones, and with the incarnations as they were
record Replaces (layout : Layout) (old : State) (next : Records → Records) (db : Trees) : Type 0 where
  records : (records : Records) → IsOurs layout old → HasRecords layout old.now.trees records → HasRecords layout db (next records)
  life : IsOurs layout old → db (life_tree layout) ≡ old.now.trees (life_tree layout)

module _ (layout : Layout) (old new : State) (spent : Bool) (before after : ℕ) (kept : HasCleanDisk old → IsOurs layout old)
    (stays : IsTrue old.is_open → old.may_leave old.committed.trees) where
  module _ (P : Trees → Type 0) (next : Records → Records) (puts : (db : Trees) → P db → Replaces layout old next db) (survives : Survives old new P) where
    early : HasCleanDisk new → HasCleanDisk old
    early now = omega (arith, survives.clean)

    saved_or : (left : Records) (db : Trees) → HasCleanDisk new → HasRecords layout db left → old.may_leave db ⊎ P db
        → (stored_over layout old false before).may_hold left
        ⊎ ((records : Records) → (stored_over layout old false before).holds records → AreSame left (next records))
    saved_or left db now has (inl found) = inl (early now, db, found, has)
    saved_or left db now has (inr put) = inr (λ records holds.
        let it = holds (early now) in
        records_of_one layout db left (next records) has ((puts db put).records records it.0.ours it.1))

    started_before : (left : ℕ) (db : Trees) → HasCleanDisk new → IsStarted layout db left → old.may_leave db ⊎ P db
        → (stored_over layout old false before).may_have_started left
    started_before left db now has (inl found) = (early now, db, found, has)
    started_before left db now has (inr put) =
        let ours = kept (early now) in
        let same = trees_committed layout old ours in (
          early now,
          old.now.trees,
          subst old.may_leave (sym same) (stays ours.is_open),
          record {
            last = has.last;
            are = rw (sym ((puts db put).life ours)) has.are;
            is = has.is;
          },
        )

    left_records : (left : Records) → (stored_over layout new spent after).may_hold left → (stored_over layout old false before).may_hold left
        ⊎ ((records : Records) → (stored_over layout old false before).holds records → AreSame left (next records))
    left_records left found = saved_or left found.1 found.0 found.3 (survives.crash found.0 found.1 found.2)

    left_started : (left : ℕ) → (stored_over layout new spent after).may_have_started left → (stored_over layout old false before).may_have_started left
    left_started left found = started_before left found.1 found.0 found.3 (survives.crash found.0 found.1 found.2)

  pub leaves_saved : (change : Change) → Survives old new (PutsRecord change.after old)
      → LeavesSaved change (stored_over layout old false before) (stored_over layout new spent after)
  leaves_saved change survives =
      let puts = λ (db : Trees) (put : PutsRecord change.after old db).
      let it : Replaces layout old (changed change) db = record { records = put.records layout; life = put.life layout } in it in
      record {
        records = left_records (PutsRecord change.after old) (changed change) puts survives;
        started = left_started (PutsRecord change.after old) (changed change) puts survives;
      }

  pub leaves_saved_all : (changes : List Change) → Survives old new (PutsAll changes old)
      → LeavesSavedAll changes (stored_over layout old false before) (stored_over layout new spent after)
  leaves_saved_all changes survives =
      let puts = λ (db : Trees) (put : PutsAll changes old db).
      let it : Replaces layout old (changed_all changes) db = record { records = put.records layout; life = put.life layout } in it in
      record {
        records = left_records (PutsAll changes old) (changed_all changes) puts survives;
        started = left_started (PutsAll changes old) (changed_all changes) puts survives;
      }
