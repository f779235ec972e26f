use Rattle.std.proofs.Common.{◌≡◌, drop}
use Rattle.node_model.specs.Requests.{held_at}
use Rattle.waiting_requests.specs.Queues.{boxed_in}
use Rattle.waiting_requests.proofs.walk.find.Given as goal

abbrev pub invariant-loop-one : goal.invariant-loop-one
invariant-loop-one l = held_at (boxed_in (drop l.one-index l.held)) l.ticket ≡ held_at (boxed_in l.held) l.ticket
