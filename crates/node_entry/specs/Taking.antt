-- The node that takes a step.
use Rattle.std.specs.Prelude.{ℕ}
use Rattle.node_entry.specs.declared.step.Step.{Step}
use Rattle.node_entry.specs.declared.step.Step.TheVariants as steps

abbrev pub node_at : Step → ℕ
node_at (steps.Deliver number node) = node
node_at (steps.Request node account request) = node
node_at (steps.Tick node moment reach) = node
node_at (steps.Grant node id) = node
node_at (steps.Answered node slot outcome) = node
node_at (steps.Crash node number found) = node
node_at (steps.Restart node) = node
