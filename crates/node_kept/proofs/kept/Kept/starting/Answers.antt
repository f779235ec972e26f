use Rattle.std.proofs.lemmas.Result.{IfOk-weaker}
use Rattle.node_kept.proofs.Tells.{starts_not, starts_now}
use Rattle.node_kept.proofs.kept.Kept.starting.Goals as goal

pub returns-in-Some-start-clause-step : goal.returns-in-Some-start-clause-step
returns-in-Some-start-clause-step c =
    let at = rw c.in-Some.is at c.requires.id in
    IfOk-weaker c.leave.result _ _ (λ step is.
    starts_now c.args.self.now c.args.id c.in-Some.next at c.in_ok-message.message c.start.new.self c.start.result c.requires.own
    c.in_ok-message.ensures c.start.ensures c.args.next c.in-Some-start.packet step c.in-Some.is c.in-Some-start.is is) c.leave.ensures

pub returns-in-None-clause-step : goal.returns-in-None-clause-step
returns-in-None-clause-step c =
    let at = rw c.in-Some.is at c.requires.id in
    starts_not c.args.self.now c.args.id c.in-Some.next at c.in_ok-message.message c.start.new.self c.start.result c.requires.own
    c.in_ok-message.ensures c.start.ensures c.args.next c.same-in-None.result c.in-Some.is c.in-None.is c.same-in-None.ensures.step
