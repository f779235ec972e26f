-- A connection that does not run even a statement that does nothing (own).
use Rattle.std.specs.Prelude.{[]}
use Rattle.sqlite.specs.Order.{Row}
use Rattle.sqlite.specs.State.{IsNotRun, State}
use Rattle.sqlite.specs.declared.error.Error.{Error}

abbrev pub IsSilent : State → State → Type 0
IsSilent old new = (why : Error) × ((params : Row) → IsNotRun old new [] params why)
