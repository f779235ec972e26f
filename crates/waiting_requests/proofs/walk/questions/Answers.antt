use Rattle.std.proofs.Common.{◌≡◌, not, true, rules, arith}
use Rattle.node_model.specs.Kept.{Held}
use Rattle.node_model.specs.Requests.{is_untold}
use Rattle.node_model.specs.Ticks.{is_late}
use Rattle.waiting_requests.proofs.Walks.{at_fault, in_box, one_kept}
use Rattle.waiting_requests.proofs.walk.questions.Goals as goal

pub returns-in_err-push-clause-memory : goal.returns-in_err-push-clause-memory
returns-in_err-push-clause-memory c =
    let timely : not (is_late c.args.clock (in_box c.one-item.result)) ≡ true = search rules in
    let untold : is_untold c.args.nodes (in_box c.one-item.result) ≡ true = search rules in
    at_fault _ c.from_residual.result (one_kept (λ (h : Held). not (is_late c.args.clock h))
    (is_untold c.args.nodes) c.args.held.now c.loop-one.one-index c.one-item.result (omega arith) c.one-item.is timely untold)
