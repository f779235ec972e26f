use Rattle.std.proofs.Common.{◌∙◌, sym, ap, true, false, arith}
use Rattle.esme_service.specs.Pushes.{takes_for}
use Rattle.esme_service.proofs.Receivers.{first_target, next_target, no_target}
use Rattle.esme_service.proofs.receiving.target_in.Goals as goal

pub loop-number-init : goal.loop-number-init
loop-number-init c = first_target c.args.sessions.now.entries c.args.long c.args.target.now

pub returns-then-takes_for : goal.returns-then-takes_for
returns-then-takes_for c =
    sym (next_target c.args.sessions.now.entries c.args.long c.args.target.now c.loop-number.number-counter true
    (omega (arith, c.loop-number-test.true, c.behind_last-end.ensures.most))
    (c.if-takes_for.ensures ∙ ap (takes_for c.args.long c.args.target.now) c.get.ensures.value))
    ∙ c.loop-number.invariant

pub loop-number-preserved : goal.loop-number-preserved
loop-number-preserved c =
    sym (next_target c.args.sessions.now.entries c.args.long c.args.target.now c.loop-number.number-counter false
    (omega (arith, c.loop-number-test.true, c.behind_last-end.ensures.most))
    (c.if-takes_for.ensures ∙ ap (takes_for c.args.long c.args.target.now) c.get.ensures.value))
    ∙ c.loop-number.invariant

pub returns : goal.returns
returns c = sym (no_target c.args.sessions.now.entries c.args.long c.args.target.now c.loop-number.number-counter
    (λ other from most. c.behind_last-end.ensures.gone other (omega (arith, c.loop-number-test.false, from)) most)) ∙ c.loop-number.invariant
