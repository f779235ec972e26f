use Rattle.std.proofs.Common.{◌≡◌, drop}
use Rattle.std.specs.List.{list_any}
use Rattle.node_model.specs.Starts.{cancels}
use Rattle.waiting_requests.specs.Queues.{boxed_in, timely}
use Rattle.waiting_requests.proofs.walk.cancels.Given as goal

abbrev pub invariant-loop-one : goal.invariant-loop-one
invariant-loop-one l =
    list_any (cancels l.id l.message) (timely l.clock (boxed_in (drop l.one-index l.held))) ≡ list_any (cancels l.id l.message)
    (timely l.clock (boxed_in l.held))
