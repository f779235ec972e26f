use Rattle.std.proofs.Common.{map}
use Rattle.std.specs.Box.{box_value}
use Rattle.std.specs.Vec.{vec_capacity}
use Rattle.std.specs.Prelude.{not}
use Rattle.node_model.specs.Kept.{Held}
use Rattle.node_model.specs.Ticks.{is_late}
use Rattle.waiting_requests.proofs.Queued.{queue_kept}
use Rattle.waiting_requests.proofs.queue.Queue.expire.Goals as goal

pub invariant_of-self : goal.invariant_of-self
invariant_of-self c =
    queue_kept (λ (h : Held). not (is_late c.args.clock h)) (vec_capacity c.self.inside.held) (vec_capacity c.keep_timely.new.held)
    (map box_value c.self.inside.held.items) (map box_value c.keep_timely.new.held.items) c.keep_timely.ensures.capacity
    c.keep_timely.ensures.held c.self.invariant
