use Rattle.std.proofs.Common.{◌≡◌, true, sym, ap, ◌∙◌, arith}
use Rattle.mc_types.specs.Nodes.{has}
use Rattle.script_runner.proofs.Taking.{nobody, none_more, somebody}
use Rattle.script_runner.proofs.centre.is_nobody.Goals as goal

pub loop-number-init : goal.loop-number-init
loop-number-init c = λ node least below. absurd (omega (arith, least, below))

pub returns-then-has : goal.returns-then-has
returns-then-has c =
    let there : has c.args.nodes c.loop-number.number ≡ true = ap (has c.args.nodes) (sym c.of.ensures) ∙ sym c.if-has.ensures in
    somebody (has c.args.nodes) c.loop-number.number c.loop-number.auto.number (omega (arith, c.loop-number-test.true)) there

pub loop-number-preserved : goal.loop-number-preserved
loop-number-preserved c =
    none_more (has c.args.nodes) c.loop-number.number c.loop-number.invariant (ap (has c.args.nodes) (sym c.of.ensures) ∙ sym c.if-has.ensures)

pub returns : goal.returns
returns c = nobody (has c.args.nodes) (λ node least below. c.loop-number.invariant node least (omega (arith, below, c.loop-number-test.false)))
