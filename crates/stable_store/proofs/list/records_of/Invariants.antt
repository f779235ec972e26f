use Rattle.std.proofs.Common.{◌≡◌, take}
use Rattle.stable_store.specs.Stored.{afters}
use Rattle.stable_store.proofs.list.records_of.Given as goal

abbrev pub invariant-loop-change : goal.invariant-loop-change
invariant-loop-change l = l.records.items ≡ afters (take l.change-index l.changes)
