use Rattle.std.proofs.Common.{refl}
use Rattle.record_rows.specs.Tables.{neither}
use Rattle.sql_store.specs.Adopted.{no_records}
use Rattle.sql_store.proofs.store.SqlStore+MemStore.in_memory.Goals as goal

pub returns-in-Ok-clause-records : goal.returns-in-Ok-clause-records
returns-in-Ok-clause-records c = c.in-Ok.ensures.records neither no_records c.in_ok-conn.ensures.empty.2 (record { each = λ slot. refl })
