use Rattle.std.proofs.Common.{map}
use Rattle.std.specs.Box.{box_value}
use Rattle.std.specs.Vec.{vec_capacity}
use Rattle.std.specs.Prelude.{◌==◌, not}
use Rattle.node_model.specs.Kept.{Held}
use Rattle.node_model.specs.Requests.{ticket_of}
use Rattle.waiting_requests.proofs.Queued.{queue_kept}
use Rattle.waiting_requests.proofs.queue.Queue.remove.Goals as goal

pub invariant_of-self : goal.invariant_of-self
invariant_of-self c =
    queue_kept (λ (h : Held). not (ticket_of h == c.args.ticket)) (vec_capacity c.self.inside.held) (vec_capacity c.keep_others.new.held)
    (map box_value c.self.inside.held.items) (map box_value c.keep_others.new.held.items) c.keep_others.ensures.capacity
    c.keep_others.ensures.held c.self.invariant
