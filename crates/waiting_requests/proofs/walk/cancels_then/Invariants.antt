use Rattle.std.proofs.Common.{◌≡◌, Some, drop, map}
use Rattle.std.specs.List.{list_any}
use Rattle.mc_model.specs.message.Chain.{taken_in}
use Rattle.mc_model.specs.message.Submission.{Submission}
use Rattle.node_model.specs.Packets.{settled_for}
use Rattle.node_model.specs.Starts.{cancels}
use Rattle.waiting_requests.specs.Queues.{boxed_in}
use Rattle.waiting_requests.proofs.walk.cancels_then.Given as goal

abbrev pub invariant-loop-one : goal.invariant-loop-one
invariant-loop-one l = (message : Submission) → taken_in l.chain.decrees ≡ Some message →
    list_any (cancels l.chain.id message) (map (settled_for l.nodes l.chain.id l.chain.decrees) (boxed_in (drop l.one-index l.held)))
    ≡ list_any (cancels l.chain.id message) (map (settled_for l.nodes l.chain.id l.chain.decrees) (boxed_in l.held))
