use Rattle.std.proofs.Common.{◌≡◌, ◌+◌, ◌<◌, ℕ, false}
use Rattle.mc_types.specs.Nodes.{has}
use Rattle.script_lines.specs.Said.{nodes_with}
use Rattle.script_text.specs.World.{World, lacks}
use Rattle.script_runner.specs.Centres.{IsWorld}
use Rattle.script_runner.proofs.centre.Centre.lacking.Given as goal

abbrev pub invariant-loop-place : goal.invariant-loop-place
invariant-loop-place l = (w : World) → IsWorld l.self w → (j : ℕ) → j < l.place → lacks w (nodes_with (has l.nodes)) l.number (1 + j) ≡ false
