use Rattle.std.proofs.Common.{take}
use Rattle.std.specs.List.{AllByRecursion}
use Rattle.record_rows.specs.Beside.{IsBeside}
use Rattle.record_rows.proofs.beside.are_beside.Given as goal

abbrev pub invariant-loop-table : goal.invariant-loop-table
invariant-loop-table l = AllByRecursion IsBeside (take l.table-index l.tables)
