use Rattle.std.proofs.Common.{◌+◌, ◌-◌, arith}
use Rattle.mc_types.specs.Nodes.{has}
use Rattle.script_lines.specs.Said.{nodes_with}
use Rattle.script_text.specs.World.{on_settle}
use Rattle.script_runner.proofs.Settling.{begins, nothing_left, one_came, stopped_if}
use Rattle.script_runner.proofs.centre.Centre.settle.Goals as goal

pub loop-delivered-init : goal.loop-delivered-init
loop-delivered-init c =
    λ w is. begins c.args.self.now w 100000 c.first_open-number.result (nodes_with (has c.args.nodes)) c.args.text.now.items is
    (c.first_open-number.ensures w is)

pub returns-in_default : goal.returns-in_default
returns-in_default c =
    λ w is.
    let way = c.loop-delivered.invariant w is in
    nothing_left (on_settle w (nodes_with (has c.args.nodes))) (100000 - c.loop-delivered._delivered)
    (100000 - (c.loop-delivered._delivered + 1)) (nodes_with (has c.args.nodes)) c.loop-delivered.number
    c.loop-delivered.self c.args.text.now.items c.loop-delivered.text.items way (omega (arith, c.loop-delivered-test.true))
    (c.in_default.ensures way.left.world way.left.is way.below)

pub loop-delivered-preserved : goal.loop-delivered-preserved
loop-delivered-preserved c =
    λ w is.
    let way = c.loop-delivered.invariant w is in
    one_came (on_settle w (nodes_with (has c.args.nodes))) (100000 - c.loop-delivered._delivered)
    (100000 - (c.loop-delivered._delivered + 1)) (nodes_with (has c.args.nodes)) c.loop-delivered.number
    c.loop-delivered.self c.deliver.new.self c.in-Some.due c.args.text.now.items c.loop-delivered.text.items c.deliver.new.text.items way
    (omega (arith, c.loop-delivered-test.true))
    (c.in-Some.ensures way.left.world way.left.is way.below) (c.in_ok-deliver.ensures.comes way.left.world way.left.is) c.in_ok-deliver.ensures.up

pub returns : goal.returns
returns c =
    stopped_if c.write_unsettled.result c.args.self.now c.loop-delivered.self (100000 - c.loop-delivered._delivered)
    (nodes_with (has c.args.nodes)) c.loop-delivered.number
    c.args.text.now.items c.loop-delivered.text.items c.write_unsettled.new.text.items c.loop-delivered.invariant
    (omega (arith, c.loop-delivered-test.false)) c.write_unsettled.ensures
