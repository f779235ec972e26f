use Rattle.std.proofs.Common.{◌≡◌, drop}
use Rattle.waiting_requests.specs.Queues.{boxed_in, timely}
use Rattle.waiting_requests.specs.Submits.{first_begun}
use Rattle.waiting_requests.proofs.walk.first_taken.Given as goal

abbrev pub invariant-loop-one : goal.invariant-loop-one
invariant-loop-one l = first_begun l.id (timely l.clock (boxed_in (drop l.one-index l.held))) ≡ first_begun l.id (timely l.clock (boxed_in l.held))
