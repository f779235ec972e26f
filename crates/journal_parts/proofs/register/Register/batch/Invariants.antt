use Rattle.std.proofs.Common.{◌≡◌, length, ◌+◌}
use Rattle.journal_parts.specs.Batches.{Covers}
use Rattle.journal_parts.proofs.register.Register.batch.Given as goal

abbrev pub invariant-loop-number : goal.invariant-loop-number
invariant-loop-number g l = Covers l.fn.first l.batch.saving.items l.batch.others.items × (l.fn.first + (length l.batch.saving.items + length l.batch.others.items) ≡ l.number)
