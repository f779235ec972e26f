use Rattle.std.proofs.Common.{◌<◌, length, sym, ◌∙◌, arith}
use Rattle.sessions.specs.Windows.{is_overdue}
use Rattle.esme_service.proofs.Overdues.{one_is_kept}
use Rattle.esme_service.proofs.overdue.add_overdue.Goals as goal

pub returns-in_err-push-clause-none : goal.returns-in_err-push-clause-none
returns-in_err-push-clause-none c = λ none.
    let below : c.loop-request.request-index < length c.args.pushed.now = omega arith in
    absurd (one_is_kept (is_overdue c.args.now) c.args.pushed.now c.loop-request.request-index c.request-item.result below c.request-item.is
    (sym c.is_overdue.ensures ∙ c.if-is_overdue.true) none)
