use Rattle.std.proofs.Common.{◌≡◌, ◌<◌, ◌++◌, [], ◌∷◌, length, map, ap, ◌∙◌}
use Rattle.std.specs.Box.{box_value}
use Rattle.std.specs.Vec.{vec_capacity}
use Rattle.std.proofs.lemmas.List.{map-append}
use Rattle.mc_model.specs.node.Room.{most_waiting}
use Rattle.waiting_requests.specs.Queues.{IsAbove, boxed_in}
use Rattle.waiting_requests.proofs.Queued.{queue_pushed}
use Rattle.waiting_requests.proofs.queue.Queue.push.Goals as goal

pub invariant_of-self : goal.invariant_of-self
invariant_of-self c =
    let items = c.self.inside.held.items in
    let all : map box_value c.push_reserved.new.items.items ≡ map box_value items ++ box_value c.args.held ∷ [] = ap
    (map box_value) c.push_reserved.ensures.items ∙ map-append box_value items (c.args.held ∷ []) in
    let few : length (map box_value items) < most_waiting = rw c.self.view_is c.requires.room in
    let above : IsAbove (boxed_in items) (box_value c.args.held).waiting.ticket = rw c.self.view_is c.requires.above in
    rw all (queue_pushed (vec_capacity c.self.inside.held) (vec_capacity c.push_reserved.new.items) (map box_value items)
    (box_value c.args.held) c.push_reserved.ensures.capacity few above c.self.invariant)
