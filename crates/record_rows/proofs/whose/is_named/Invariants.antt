use Rattle.std.proofs.Common.{◌≡◌, drop}
use Rattle.record_rows.specs.Whose.{is_named}
use Rattle.record_rows.proofs.whose.is_named.Given as goal

abbrev pub invariant-loop-table : goal.invariant-loop-table
invariant-loop-table l = is_named l.name (drop l.table-index l.tables) ≡ is_named l.name l.tables
