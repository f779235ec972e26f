use Rattle.std.proofs.Common.{◌≡◌, None, drop}
use Rattle.waiting_requests.specs.Queues.{boxed_in, timely}
use Rattle.waiting_requests.specs.Numbers.{least_of}
use Rattle.waiting_requests.proofs.walk.next_id.Given as goal

abbrev pub invariant-loop-one : goal.invariant-loop-one
invariant-loop-one l = least_of l.from (timely l.clock (boxed_in (drop l.one-index l.held))) l.least ≡ least_of l.from (timely l.clock (boxed_in l.held)) None
