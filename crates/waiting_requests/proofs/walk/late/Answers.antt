use Rattle.std.proofs.Common.{◌≡◌, true, rules, arith}
use Rattle.node_model.specs.Ticks.{is_late}
use Rattle.waiting_requests.proofs.Walks.{at_fault, in_box, one_passes}
use Rattle.waiting_requests.proofs.walk.late.Goals as goal

pub returns-in_err-push-clause-memory : goal.returns-in_err-push-clause-memory
returns-in_err-push-clause-memory c =
    let late : is_late c.args.clock (in_box c.one-item.result) ≡ true = search rules in
    at_fault _ c.from_residual.result (one_passes (is_late c.args.clock) c.args.held.now c.loop-one.one-index c.one-item.result
    (omega arith) c.one-item.is late)
