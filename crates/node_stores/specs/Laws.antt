-- The laws of a node's store: what it holds may be found after a stop, and while it answers nothing else may (own).
use Rattle.std.proofs.Common.{◌≡◌, ℕ, inl, refl}
use Rattle.mc_model.specs.synod.Acceptor.{Records}
use Rattle.sqlite.specs.Files.{file_state}
use Rattle.sqlite.specs.Held.{state}
use Rattle.sqlite.specs.Steps.{over_memory}
use Rattle.sqlite_store.specs.Laws.{settled_at, stays_at}
use Rattle.stable_store.specs.Stored.{AreSame}
use Rattle.sql_records.proofs.Laws as over
use Rattle.node_stores.specs.declared.store.NodeStore.{NodeStore}
use Rattle.node_stores.specs.declared.store.NodeStore.TheVariants.{OnDisk, InMemory}
use Rattle.node_stores.specs.Stores.{kept_in}

pub found_in : (store : NodeStore) (records : Records) → (kept_in store).doubt ≡ 0 → (kept_in store).holds records → (kept_in store).may_hold records
found_in (OnDisk s) = over.found_at s.layout (file_state s.conn) s.spent s.failed (stays_at s.conn.store (λ _. inl refl))
found_in (InMemory s) = over.found_at s.layout (state over_memory s.conn) s.spent s.failed (λ _. refl)

pub found_started_in : (store : NodeStore) (started : ℕ) → (kept_in store).doubt ≡ 0 → (kept_in store).has_started started
    → (kept_in store).may_have_started started
found_started_in (OnDisk s) = over.found_started_at s.layout (file_state s.conn) s.spent s.failed (stays_at s.conn.store (λ _. inl refl))
found_started_in (InMemory s) = over.found_started_at s.layout (state over_memory s.conn) s.spent s.failed (λ _. refl)

pub settled_in : (store : NodeStore) (records left : Records) → (kept_in store).holds records → (kept_in store).may_hold left → AreSame left records
settled_in (OnDisk s) = over.settled_at s.layout (file_state s.conn) s.spent s.failed (settled_at s.conn.store (λ _. inl refl))
settled_in (InMemory s) = over.settled_at s.layout (state over_memory s.conn) s.spent s.failed (λ _ _ same. same)

pub settled_started_in : (store : NodeStore) (started left : ℕ) → (kept_in store).has_started started → (kept_in store).may_have_started left
    → left ≡ started
settled_started_in (OnDisk s) = over.settled_started_at s.layout (file_state s.conn) s.spent s.failed (settled_at s.conn.store (λ _. inl refl))
settled_started_in (InMemory s) = over.settled_started_at s.layout (state over_memory s.conn) s.spent s.failed (λ _ _ same. same)
