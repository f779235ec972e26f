use Rattle.std.specs.Prelude.{min}
use Rattle.std.specs.Vec.{vec_capacity}
use Rattle.node_parts.specs.Sleeping.{ids_of}
use Rattle.node_parts.proofs.Living.{next_live_is}
use Rattle.node_parts.proofs.message_shelf.MessageShelf.next_live.Goals as goal

pub returns : goal.returns
returns c =
    let s = c.self.inside in
    let room = min s.live.width (vec_capacity s.awake.ids) in
    rw (← c.self.view_is)
    (next_live_is s.shelf.entries (ids_of s.live.items) room c.args.from c.least_from.result c.self.invariant.0
    c.least_from.ensures)
