use Rattle.std.proofs.Common.{length}
use Rattle.node_kept.specs.Grouping.{changed_by_all}
use Rattle.node_kept.specs.Keeping.{records_of}
use Rattle.node_kept.proofs.Groups.{IsTaking}
use Rattle.node_kept.proofs.kept.Kept.install_each.Given as goal

abbrev pub invariant-loop-step : goal.invariant-loop-step
invariant-loop-step l =
    IsTaking l.fn.self l.self l.fn.steps.items l.left.items (changed_by_all l.fn.changes.items (records_of l.fn.self.messages.entries)) l.waiting.items

abbrev pub decreases-loop-step : goal.decreases-loop-step
decreases-loop-step l = length l.left.items
