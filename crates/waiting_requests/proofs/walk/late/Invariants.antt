use Rattle.std.proofs.Common.{◌≡◌, ◌++◌, drop, map}
use Rattle.std.specs.Prelude.{filter}
use Rattle.node_model.specs.Ticks.{is_late, late_reply}
use Rattle.waiting_requests.specs.Queues.{boxed_in}
use Rattle.waiting_requests.specs.Replying.{reply_given}
use Rattle.waiting_requests.proofs.walk.late.Given as goal

abbrev pub invariant-loop-one : goal.invariant-loop-one
invariant-loop-one l =
    map reply_given l.replies.items ++ map late_reply (filter (is_late l.clock) (boxed_in (drop l.one-index l.held))) ≡ map late_reply
    (filter (is_late l.clock) (boxed_in l.held))
