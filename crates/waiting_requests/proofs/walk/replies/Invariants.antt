use Rattle.std.proofs.Common.{◌≡◌, ◌++◌, Some, drop, map}
use Rattle.node_model.specs.Answers.{replies_to}
use Rattle.node_model.specs.Packets.{settled_for}
use Rattle.waiting_requests.specs.Queues.{boxed_in}
use Rattle.waiting_requests.specs.Replying.{reply_given}
use Rattle.waiting_requests.proofs.walk.replies.Given as goal

abbrev pub invariant-loop-one : goal.invariant-loop-one
invariant-loop-one l =
    map reply_given l.replies.items ++ replies_to l.nodes (Some l.chain.decrees) l.chain.id
    (map (settled_for l.nodes l.chain.id l.chain.decrees) (boxed_in (drop l.one-index l.held)))
    ≡ replies_to l.nodes (Some l.chain.decrees) l.chain.id (map (settled_for l.nodes l.chain.id l.chain.decrees) (boxed_in l.held))
