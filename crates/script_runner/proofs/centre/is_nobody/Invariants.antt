use Rattle.std.proofs.Common.{◌≡◌, ◌<◌, ◌≤◌, ℕ, false}
use Rattle.mc_types.specs.Nodes.{has}
use Rattle.script_runner.proofs.centre.is_nobody.Given as goal

abbrev pub invariant-loop-number : goal.invariant-loop-number
invariant-loop-number l = (node : ℕ) → 1 ≤ node → node < l.number → has l.nodes node ≡ false
