use Rattle.std.proofs.Common.{◌≡◌, ◌<◌, ◌≤◌, ℕ, false}
use Rattle.mc_types.specs.Nodes.{has}
use Rattle.script_lines.proofs.line.all_within.Given as goal

abbrev pub invariant-loop-number : goal.invariant-loop-number
invariant-loop-number l = (node : ℕ) → 1 ≤ node → node < l.number → l.most < node → has l.nodes node ≡ false
