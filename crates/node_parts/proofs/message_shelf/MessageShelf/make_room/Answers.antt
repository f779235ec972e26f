use Rattle.std.proofs.Common.{◌≤◌, ℕ, List, sym, ap, subst, arith}
use Rattle.std.specs.Prelude.{min}
use Rattle.std.specs.Vec.{vec_capacity}
use Rattle.node_parts.specs.declared.listing.Listing.{Listing}
use Rattle.node_parts.specs.declared.message.Message.{Message as Filed}
use Rattle.node_parts.specs.Sleeping.{AreNoted, ids_of}
use Rattle.node_parts.specs.Waking.{AreAwake}
use Rattle.node_parts.proofs.Living.{listed_moved}
use Rattle.node_parts.proofs.message_shelf.MessageShelf.make_room.Goals as goal

pub invariant_of-self : goal.invariant_of-self
invariant_of-self c =
    let s = c.self.inside in
    let new = c.widen.new.self in
    let ids = c.widen-2.new.list in
    let grows : min s.live.width (vec_capacity s.awake.ids) ≤ min new.width (vec_capacity ids) =
    (let one = c.widen.ensures.width in let other = c.widen-2.ensures.capacity in omega (arith, one, other)) in (
      listed_moved s.shelf.entries c.make_room.new.self.entries (ids_of s.live.items) (ids_of new.items) (min s.live.width (vec_capacity s.awake.ids))
          (min new.width (vec_capacity ids)) c.make_room.ensures.entries (ap ids_of c.widen.ensures.items) grows c.self.invariant.0,
      (
        subst (λ (es : List (ℕ × Filed)). AreNoted s.noted es new.items) (sym c.make_room.ensures.entries)
            (subst (λ (ls : List Listing). AreNoted s.noted s.shelf.entries ls) (sym c.widen.ensures.items) c.self.invariant.1.0),
        subst (λ (ls : List Listing). AreAwake s.awake.until ls ids.items) (sym c.widen.ensures.items)
            (subst (AreAwake s.awake.until s.live.items) (sym c.widen-2.ensures.items) c.self.invariant.1.1),
      ),
    )
