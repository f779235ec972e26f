use Rattle.std.proofs.Common.{◌-◌, length}
use Rattle.script_text.specs.World.{World, on_replay, replays}
use Rattle.script_runner.specs.Centres.{IsWorld}
use Rattle.script_runner.proofs.Following.{IsLeft}
use Rattle.script_runner.proofs.centre.Centre.replay.Given as goal

abbrev pub invariant-loop-time : goal.invariant-loop-time
invariant-loop-time l =
    (w : World) → IsWorld l.fn.self w →
    IsLeft (on_replay w l.count) (replays (l.count - l._time) (length l.fn.self.world.packets)) l.self l.fn.text.items l.text.items
