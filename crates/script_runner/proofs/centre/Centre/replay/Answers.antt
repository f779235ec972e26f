use Rattle.std.proofs.Common.{◌+◌, ◌-◌, length, ap, arith}
use Rattle.std.specs.Prelude.{reverse}
use Rattle.std.specs.List.{range_with_len}
use Rattle.script_text.specs.World.{all_come, on_replay, replays}
use Rattle.script_runner.proofs.Following.{all_done, one_done, replay_next, replayed_all}
use Rattle.script_runner.proofs.Repeating.{begins, none_again}
use Rattle.script_runner.proofs.centre.Centre.replay.Goals as goal

pub returns-then-sent-eq0 : goal.returns-then-sent-eq0
returns-then-sent-eq0 c = none_again c.args.self.now c.args.count c.args.text.now.items (let of = ap length c.packets.ensures in omega (arith, c.len-sent.ensures, c.if-sent-eq0.true, of))

pub loop-time-init : goal.loop-time-init
loop-time-init c = λ w is. begins c.args.self.now w c.args.count (c.args.count - 0) c.args.text.now.items (omega arith) is

pub loop-time-preserved : goal.loop-time-preserved
loop-time-preserved c =
    λ w is.
    let left = c.loop-time.invariant w is in
    let sent = length c.args.self.now.world.packets in
    one_done (on_replay w c.args.count) (replays (c.args.count - c.loop-time._time) sent) (replays (c.args.count - (c.loop-time._time + 1)) sent)
    (λ v. all_come (reverse (range_with_len 1 sent)) v) c.loop-time.self c.all_come.new.self c.args.text.now.items c.loop-time.text.items
    c.all_come.new.text.items left
    (replay_next (c.args.count - c.loop-time._time) (c.args.count - (c.loop-time._time + 1)) sent left.world (omega (arith, c.loop-time-test.true)))
    ((rw (c.len-sent.ensures, c.packets.ensures) at c.in_ok-all_come.ensures) left.world left.is)

pub returns : goal.returns
returns c =
    λ w is.
    let left = c.loop-time.invariant w is in
    all_done (on_replay w c.args.count) (replays (c.args.count - c.loop-time._time)
    (length c.args.self.now.world.packets)) c.loop-time.self c.args.text.now.items c.loop-time.text.items left
    (replayed_all (c.args.count - c.loop-time._time) (length c.args.self.now.world.packets) left.world (omega (arith, c.loop-time-test.false)))
