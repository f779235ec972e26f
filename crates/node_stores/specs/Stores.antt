-- A node's store, on disk or in memory (own).
use Rattle.std.specs.Prelude.{◌≡◌, Bool, true, false}
use Rattle.sqlite.specs.Files.{file_state, over_files}
use Rattle.sqlite.specs.Held.{state}
use Rattle.sqlite.specs.State.{HasCleanDisk}
use Rattle.sqlite.specs.Steps.{over_memory}
use Rattle.record_rows.specs.Ours.{IsOurs}
use Rattle.stable_store.specs.Stored.{Stored}
use Rattle.noting_store.specs.Noted.{Noted}
use Rattle.sql_records.specs.Noting.{may_know_over}
use Rattle.sql_store.specs.Adopted.{no_records}
use Rattle.sql_store.specs.Sql.{stored_in}
use Rattle.node_stores.specs.declared.store.NodeStore.{NodeStore}
use Rattle.node_stores.specs.declared.store.NodeStore.TheVariants.{OnDisk, InMemory}

abbrev pub is_on_disk : NodeStore → Bool
is_on_disk (OnDisk store) = true
is_on_disk (InMemory store) = false

-- what is stored
abbrev pub kept_in : NodeStore → Stored
kept_in (OnDisk store) = stored_in over_files store
kept_in (InMemory store) = stored_in over_memory store

-- the notes that whoever opens it may find
abbrev pub may_know_in : NodeStore → Noted → Type 0
may_know_in (OnDisk store) = may_know_over (state over_files store.conn)
may_know_in (InMemory store) = may_know_over (state over_memory store.conn)

-- on disk it opens over the two tables, unless the disk returned what nobody wrote; it is not spent, and counts no failure
abbrev pub OpensOnDisk : NodeStore → Type 0
OpensOnDisk (OnDisk store) = (store.spent ≡ false) × (store.failed ≡ 0) × (HasCleanDisk (file_state store.conn) → IsOurs store.layout (file_state store.conn))
OpensOnDisk (InMemory store) = ⊥

-- in memory it has no record, and no incarnation was used
abbrev pub OpensInMemory : NodeStore → Type 0
OpensInMemory (OnDisk store) = ⊥
OpensInMemory (InMemory store) = (stored_in over_memory store).holds no_records × (stored_in over_memory store).has_started 0
