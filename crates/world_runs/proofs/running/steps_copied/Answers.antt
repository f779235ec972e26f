use Rattle.std.proofs.Common.{◌≡◌, List, get_or, ap, ◌∙◌, arith}
use Rattle.world.specs.Step.{Step}
use Rattle.world_runs.proofs.Copying.{one_copied}
use Rattle.world_runs.proofs.running.steps_copied.Goals as goal

pub loop-step-preserved : goal.loop-step-preserved
loop-step-preserved c =
    let steps = c.args.steps.now.items in
    let place = c.loop-step.step-index in
    let step = c.step-item.result in
    let is : step ≡ get_or steps place step = c.step-item.is ∙ ap (λ (ss : List Step). get_or ss place step) c.deref-step-items.ensures.value in
    one_copied steps c.loop-step.copies.items c.push.new.self.items place step c.in_ok-copy.field-0
    (omega (arith, c.loop-step-test.true, c.deref-step-items.ensures.len)) is c.loop-step.invariant c.in_ok-copy.ensures c.in_ok-push.ensures.items
