use Rattle.std.proofs.Common.{◌-◌, arith}
use Rattle.std.specs.Prelude.{reverse}
use Rattle.std.specs.List.{range_with_len}
use Rattle.script_text.specs.World.{all_come, comes_to, node_numbers}
use Rattle.script_runner.proofs.Following.{all_done, all_left, come_all, come_next, one_done}
use Rattle.script_runner.proofs.centre.Centre.all_come.Goals as goal

pub loop-number-init : goal.loop-number-init
loop-number-init c = λ w is. all_left (all_come (reverse (range_with_len 1 c.args.sent))) c.args.self.now w c.args.text.now.items is

pub loop-number-preserved : goal.loop-number-preserved
loop-number-preserved c =
    λ w is.
    let left = c.loop-number.invariant w is in
    one_done (all_come (reverse (range_with_len 1 c.args.sent)) w) (all_come (reverse (range_with_len 1 c.loop-number.number)))
    (all_come (reverse (range_with_len 1 (c.loop-number.number - 1))))
    (λ v. comes_to c.loop-number.number (node_numbers v) v) c.loop-number.self c.comes_to_all.new.self c.args.text.now.items
    c.loop-number.text.items c.comes_to_all.new.text.items left
    (come_next c.loop-number.number (c.loop-number.number - 1) left.world (omega (arith, c.loop-number-test.true)))
    (c.in_ok-comes_to_all.ensures left.world left.is)

pub returns : goal.returns
returns c =
    λ w is.
    let left = c.loop-number.invariant w is in
    all_done (all_come (reverse (range_with_len 1 c.args.sent)) w)
    (all_come (reverse (range_with_len 1 c.loop-number.number))) c.loop-number.self c.args.text.now.items c.loop-number.text.items left
    (come_all c.loop-number.number left.world (omega (arith, c.loop-number-test.false)))
