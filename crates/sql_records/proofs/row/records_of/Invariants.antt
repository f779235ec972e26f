use Rattle.std.proofs.Common.{take, map}
use Rattle.record_rows.specs.Content.{entry_of}
use Rattle.sql_records.specs.Standing.{StandForEach}
use Rattle.sql_records.proofs.row.records_of.Given as goal

abbrev pub invariant-loop-row : goal.invariant-loop-row
invariant-loop-row l = StandForEach (map entry_of (take l.row-index l.rows)) l.records.items
