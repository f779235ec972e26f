use Rattle.std.proofs.Common.{◌+◌}
use Rattle.mc_types.specs.Nodes.{has}
use Rattle.script_lines.specs.Said.{nodes_with}
use Rattle.script_text.specs.World.{World}
use Rattle.script_runner.specs.Centres.{IsWorld, NothingBefore}
use Rattle.script_runner.proofs.centre.Centre.due.Given as goal

abbrev pub invariant-loop-place : goal.invariant-loop-place
invariant-loop-place l =
    (w : World) → IsWorld l.self w → NothingBefore w (nodes_with (has l.nodes)) l.from → NothingBefore w (nodes_with (has l.nodes)) (l.place + 1)
