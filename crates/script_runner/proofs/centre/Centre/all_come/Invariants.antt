use Rattle.std.specs.Prelude.{reverse}
use Rattle.std.specs.List.{range_with_len}
use Rattle.script_text.specs.World.{World, all_come}
use Rattle.script_runner.specs.Centres.{IsWorld}
use Rattle.script_runner.proofs.Following.{IsLeft}
use Rattle.script_runner.proofs.centre.Centre.all_come.Given as goal

abbrev pub invariant-loop-number : goal.invariant-loop-number
invariant-loop-number l =
    (w : World) → IsWorld l.fn.self w →
    IsLeft (all_come (reverse (range_with_len 1 l.sent)) w) (all_come (reverse (range_with_len 1 l.number))) l.self l.fn.text.items l.text.items

abbrev pub decreases-loop-number : goal.decreases-loop-number
decreases-loop-number l = l.number
