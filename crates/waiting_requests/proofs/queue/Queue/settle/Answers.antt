use Rattle.std.proofs.Common.{map}
use Rattle.std.specs.Box.{box_value}
use Rattle.std.specs.Vec.{vec_capacity}
use Rattle.std.specs.Prelude.{Some}
use Rattle.node_model.specs.Answers.{still_waits}
use Rattle.node_model.specs.Packets.{settled_for}
use Rattle.waiting_requests.proofs.Queued.{queue_changed, queue_kept, settled_ticket}
use Rattle.waiting_requests.proofs.queue.Queue.settle.Goals as goal

pub invariant_of-self : goal.invariant_of-self
invariant_of-self c =
    let nodes = c.args.nodes in
    let id = c.args.chain.now.id in
    let chain = c.args.chain.now.decrees in
    let settled = queue_changed (settled_for nodes id chain) (settled_ticket nodes id chain) (vec_capacity c.self.inside.held)
    (vec_capacity c.settle.new.held) (map box_value c.self.inside.held.items)
    (map box_value c.settle.new.held.items) c.settle.ensures.capacity c.settle.ensures.held c.self.invariant in
    queue_kept (still_waits nodes (Some chain) id) (vec_capacity c.settle.new.held) (vec_capacity c.keep_waiting.new.held)
    (map box_value c.settle.new.held.items) (map box_value c.keep_waiting.new.held.items) c.keep_waiting.ensures.capacity
    c.keep_waiting.ensures.held settled
