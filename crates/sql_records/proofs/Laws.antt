-- The laws of a store: what it holds may be found after a stop, and while it answers nothing else may.
use Rattle.std.proofs.Common.{◌≡◌, ℕ, ℤ, Bool, Option, Some, None, IsTrue, sym, ap, subst, ◌∙◌}
use Rattle.mc_model.specs.synod.Acceptor.{Records}
use Rattle.sqlite.specs.Tree.{Trees}
use Rattle.sqlite.specs.Effect.{Database}
use Rattle.sqlite.specs.State.{State}
use Rattle.sqlite_trees.specs.View.{doubt}
use Rattle.record_rows.specs.Ours.{IsOurs}
use Rattle.record_rows.specs.Tables.{Layout, slots_tree}
use Rattle.stable_store.specs.Stored.{AreSame}
use Rattle.sql_records.specs.Stores.{HasRecords, IsLast, IsStarted, stored_over}
use Rattle.sql_records.proofs.CallLemmas.{slots_are_one}
use Rattle.sql_records.proofs.Keys.{same_number}
use Rattle.sql_records.proofs.NextLemmas.{life_of_one}
use Rattle.sql_records.proofs.Standings.{stand_along, stand_for_one}

-- ---- rows are of one thing

pub records_of_one : (layout : Layout) (db : Trees) (one other : Records) → HasRecords layout db one → HasRecords layout db other → AreSame one other
records_of_one layout db one other is also =
    stand_for_one is.slots one other is.stand (stand_along also.slots is.slots other (slots_are_one (db (slots_tree layout)) also.slots is.slots
    also.are is.are) also.stand)

last_of_one : (last : Option ℤ) (one other : ℕ) → IsLast last one → IsLast last other → one ≡ other
last_of_one None one other is also = is ∙ sym also
last_of_one (Some number) one other is also = same_number one other (sym is.0 ∙ also.0)

pub started_of_one : (layout : Layout) (db : Trees) (one other : ℕ) → IsStarted layout db one → IsStarted layout db other → one ≡ other
started_of_one layout db one other is also =
    last_of_one is.last one other is.is (subst (λ last. IsLast last other) (life_of_one _ also.last is.last also.are is.are) also.is)

-- ---- the laws

pub trees_committed : (layout : Layout) (s : State) → IsOurs layout s → s.now.trees ≡ s.committed.trees
trees_committed layout s ours = ap (λ (d : Database). d.trees) ours.committed

module _ (layout : Layout) (s : State) (spent : Bool) (failed : ℕ) (stays : IsTrue s.is_open → s.may_leave s.committed.trees) where
  pub found_at : (records : Records) → doubt s.is_clean ≡ 0 → (stored_over layout s spent failed).holds records
      → (stored_over layout s spent failed).may_hold records
  found_at records clean holds =
      let it = holds clean in
      let same = trees_committed layout s it.0.ours in
      (clean, s.now.trees, subst s.may_leave (sym same) (stays it.0.ours.is_open), it.1)

  pub found_started_at : (started : ℕ) → doubt s.is_clean ≡ 0 → (stored_over layout s spent failed).has_started started
      → (stored_over layout s spent failed).may_have_started started
  found_started_at started clean holds =
      let it = holds clean in
      let same = trees_committed layout s it.0.ours in
      (clean, s.now.trees, subst s.may_leave (sym same) (stays it.0.ours.is_open), it.1)

module _ (layout : Layout) (s : State) (spent : Bool) (failed : ℕ) (settled : (db : Trees) → IsTrue s.is_open → s.may_leave db → db ≡ s.committed.trees) where
  is_now : (db : Trees) → IsOurs layout s → s.may_leave db → db ≡ s.now.trees
  is_now db ours left = settled db ours.is_open left ∙ sym (trees_committed layout s ours)

  pub settled_at : (records left : Records) → (stored_over layout s spent failed).holds records → (stored_over layout s spent failed).may_hold left
      → AreSame left records
  settled_at records left holds found =
      let it = holds found.0 in
      let same = is_now found.1 it.0.ours found.2 in
      records_of_one layout s.now.trees left records (subst (λ db. HasRecords layout db left) same found.3) it.1

  pub settled_started_at : (started left : ℕ) → (stored_over layout s spent failed).has_started started
      → (stored_over layout s spent failed).may_have_started left → left ≡ started
  settled_started_at started left holds found =
      let it = holds found.0 in
      let same = is_now found.1 it.0.ours found.2 in
      started_of_one layout s.now.trees left started (subst (λ db. IsStarted layout db left) same found.3) it.1
