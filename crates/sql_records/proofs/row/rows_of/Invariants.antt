use Rattle.std.proofs.Common.{take, map}
use Rattle.record_rows.specs.Content.{entry_of}
use Rattle.stable_store.specs.Stored.{afters}
use Rattle.sql_records.specs.Standing.{StandForEach}
use Rattle.sql_records.proofs.row.rows_of.Given as goal

abbrev pub invariant-loop-change : goal.invariant-loop-change
invariant-loop-change l = StandForEach (map entry_of l.rows.items) (afters (take l.change-index l.changes))
