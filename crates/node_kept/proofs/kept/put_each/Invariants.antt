use Rattle.std.proofs.Common.{length}
use Rattle.node_kept.specs.Steps.{entries_after}
use Rattle.node_kept.proofs.Putting.{IsPutting}
use Rattle.node_kept.proofs.kept.put_each.Given as goal

abbrev pub invariant-loop-put : goal.invariant-loop-put
invariant-loop-put l = IsPutting (entries_after l.fn.kept.entries l.fn.messages.items) l.fn.kept (length l.fn.messages.items) l.kept l.messages.items

abbrev pub decreases-loop-put : goal.decreases-loop-put
decreases-loop-put l = length l.messages.items
