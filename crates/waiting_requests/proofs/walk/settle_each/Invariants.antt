use Rattle.std.proofs.Common.{◌≡◌, take, drop, map, length}
use Rattle.node_model.specs.Packets.{settled_for}
use Rattle.waiting_requests.specs.Queues.{boxed_in}
use Rattle.waiting_requests.proofs.walk.settle_each.Given as goal

abbrev pub invariant-loop-one : goal.invariant-loop-one
invariant-loop-one l = record {
  len : length l.held ≡ length l.fn.held;
  front : boxed_in (take l.one-index l.held) ≡ map (settled_for l.nodes l.chain.id l.chain.decrees) (boxed_in (take l.one-index l.fn.held));
  back : drop l.one-index l.held ≡ drop l.one-index l.fn.held;
}
