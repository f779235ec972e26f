-- What a call that stores notes leaves of a store.
use Rattle.std.proofs.Common.{◌⊎◌, inl, inr, IsTrue, List, sym, subst, arith}
use Rattle.mc_model.specs.synod.Lists.{In}
use Rattle.sqlite.specs.Tree.{Trees}
use Rattle.sqlite.specs.State.{State, HasCleanDisk, Survives}
use Rattle.record_rows.specs.Ours.{IsOurs, IsStrange}
use Rattle.record_rows.specs.Tables.{Layout}
use Rattle.sql_records.proofs.Laws.{trees_committed}
use Rattle.noting_store.specs.Noted.{Noted}
use Rattle.sql_records.specs.Noting.{HasNote, PutsNotes}
use Rattle.sql_records.specs.Noting.{may_know_over}

module _ (layout : Layout) (old new : State) (kept : HasCleanDisk old → IsOurs layout old)
    (stays : IsTrue old.is_open → old.may_leave old.committed.trees) where
  -- what is seen may be found
  is_left : HasCleanDisk old → old.may_leave old.now.trees
  is_left clean = subst old.may_leave (sym (trees_committed layout old (kept clean))) (stays (kept clean).is_open)

  module _ (notes : List Noted) (survives : Survives old new (PutsNotes notes old)) where
    early : HasCleanDisk new → HasCleanDisk old
    early now = omega (arith, survives.clean)

    known_before : (n : Noted) (db : Trees) → HasCleanDisk new → HasNote db n → old.may_leave db ⊎ PutsNotes notes old db → may_know_over old n ⊎ In n notes
    known_before n db now has (inl found) = inl (early now, db, found, has)
    known_before n db now has (inr put) = elim (put.only layout (kept (early now)) n has) [
      | inl was ↦ inl (early now, old.now.trees, is_left (early now), was)
      | inr one ↦ inr one
    ]

    pub noted_only : (n : Noted) → may_know_over new n → may_know_over old n ⊎ In n notes
    noted_only n found = known_before n found.1 found.0 found.3 (survives.crash found.0 found.1 found.2)

  -- ---- a call that reads

  module _ (survives : Survives old new (IsStrange old)) where
    pub known_still : (n : Noted) → may_know_over new n → may_know_over old n
    known_still n found =
        let early : HasCleanDisk old = omega (arith, survives.clean, found.0) in
        elim (survives.crash found.0 found.1 found.2) [
          | inl was ↦ (early, found.1, was, found.3)
          | inr strange ↦ absurd (strange layout (kept early))
        ]

    pub is_known : HasCleanDisk new → (n : Noted) → HasNote old.now.trees n → may_know_over old n
    is_known now n has = let early : HasCleanDisk old = omega (arith, survives.clean, now) in (early, old.now.trees, is_left early, has)
