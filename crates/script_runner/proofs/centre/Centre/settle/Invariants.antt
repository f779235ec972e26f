use Rattle.std.proofs.Common.{◌-◌}
use Rattle.mc_types.specs.Nodes.{has}
use Rattle.script_lines.specs.Said.{nodes_with}
use Rattle.script_text.specs.World.{World, on_settle}
use Rattle.script_runner.specs.Centres.{IsWorld}
use Rattle.script_runner.proofs.Settling.{IsUnderWay}
use Rattle.script_runner.proofs.centre.Centre.settle.Given as goal

abbrev pub invariant-loop-delivered : goal.invariant-loop-delivered
invariant-loop-delivered l =
    (w : World) → IsWorld l.fn.self w →
    IsUnderWay (on_settle w (nodes_with (has l.nodes))) (100000 - l._delivered) (nodes_with (has l.nodes)) l.number l.self l.fn.text.items l.text.items
