-- Stores on disk and in memory may go to another thread, and threads may share one.
use denote.Param.Send.{IsSend, IsSync, sendable, whole-keyless}
use denote.Param.SendFields.{declared_send, declared_sync}
use Rattle.std.proofs.fs.File.TheSendSync as file
use Rattle.sqlite_std_file.specs.contracts.record.Record as Record
use Rattle.sqlite_std_file.specs.contracts.host.Host as Host
use Rattle.sqlite_disk.proofs.modelled.Modelled.TheSendSync as modelled
use Rattle.sqlite_store.proofs.store.FileStore.TheSendSync as files
use Rattle.sqlite_trees.proofs.memory.MemStore.TheSendSync as memory
use Rattle.sqlite.proofs.connection.Connection.TheSendSync as connection
use Rattle.sql_store.proofs.store.SqlStore.TheSendSync as store
use Rattle.node_stores.specs.contracts.store.NodeStore as NodeStore

record_send : IsSend Record.the_row
record_send = search sendable depth 60

pub host_send : IsSend Host.the_row
host_send = declared_send Host.the_type (file.the_send, (record_send, tt))

-- The record of a file's calls has a marker, and ghosts; what its author says that it owns besides is nothing, for which the checker finds no proof.
record_sync : IsSync Record.the_row
record_sync = record { shared = λ d b o κ q. whole-keyless _ _ (λ z vs. ((λ vss. (tt, ((λ _. (tt, tt)), tt))), tt)) q d b o }

pub host_sync : IsSync Host.the_row
host_sync = declared_sync Host.the_type (file.the_sync, (record_sync, tt))

-- What a search takes, besides `sendable`, to find that such a store, or what stands on it, crosses: over a connection in memory, and over a file.
pub ruleset memory_crosses = (memory.the_send, memory.the_sync, connection.the_send, connection.the_sync, store.the_send, store.the_sync)

pub ruleset file_crosses = (
  host_send,
  host_sync,
  modelled.the_send,
  modelled.the_sync,
  files.the_send,
  files.the_sync,
  connection.the_send,
  connection.the_sync,
  store.the_send,
  store.the_sync,
)

-- ---- a store of which either is a case

pub node_store_send : IsSend NodeStore.the_row
node_store_send = search (sendable, memory_crosses, file_crosses) depth 60

pub node_store_sync : IsSync NodeStore.the_row
node_store_sync = search (sendable, memory_crosses, file_crosses) depth 60
