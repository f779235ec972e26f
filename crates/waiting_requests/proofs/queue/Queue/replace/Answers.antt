use Rattle.std.proofs.Common.{map}
use Rattle.std.specs.Box.{box_value}
use Rattle.std.specs.Vec.{vec_capacity}
use Rattle.std.specs.Prelude.{◌==◌, if◌then◌else◌}
use Rattle.node_model.specs.Kept.{Held}
use Rattle.node_model.specs.Requests.{ticket_of}
use Rattle.waiting_requests.specs.Waiting.{held_of}
use Rattle.waiting_requests.proofs.Queued.{queue_changed, replaced_ticket}
use Rattle.waiting_requests.proofs.queue.Queue.replace.Goals as goal

pub invariant_of-self : goal.invariant_of-self
invariant_of-self c =
    let new : Held = held_of (box_value c.args.held) in
    queue_changed (λ (h : Held). if ticket_of h == ticket_of new then new else h) (replaced_ticket new) (vec_capacity c.self.inside.held)
    (vec_capacity c.replace.new.held) (map box_value c.self.inside.held.items)
    (map box_value c.replace.new.held.items) c.replace.ensures.capacity c.replace.ensures.held c.self.invariant
