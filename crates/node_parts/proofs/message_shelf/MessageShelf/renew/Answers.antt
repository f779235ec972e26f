use Rattle.std.proofs.Common.{ℕ, List, sym, subst}
use Rattle.std.specs.Prelude.{min}
use Rattle.std.specs.Vec.{vec_capacity}
use Rattle.node_parts.specs.declared.message.Message.{Message as Filed}
use Rattle.node_parts.specs.Living.{AreListed}
use Rattle.node_parts.specs.Renewal.{renewed}
use Rattle.node_parts.specs.Sleeping.{AreNoted, ids_of}
use Rattle.node_parts.proofs.Dozing.{noted_visited, renewed_keeps}
use Rattle.node_parts.proofs.Living.{listed_visited, renewed_settled}
use Rattle.node_parts.proofs.message_shelf.MessageShelf.renew.Goals as goal

pub invariant_of-self : goal.invariant_of-self
invariant_of-self c =
    let s = c.self.inside in
    let room = min s.live.width (vec_capacity s.awake.ids) in
    let f = renewed c.args.me in (
      subst (λ (es : List (ℕ × Filed)). AreListed es (ids_of s.live.items) room) (sym c.for_each.ensures.entries)
          (listed_visited f s.shelf.entries (ids_of s.live.items) room (renewed_settled c.args.me) c.self.invariant.0),
      (
        subst (λ (es : List (ℕ × Filed)). AreNoted s.noted es s.live.items) (sym c.for_each.ensures.entries)
            (noted_visited f s.noted s.shelf.entries s.live.items (renewed_keeps c.args.me) c.self.invariant.1.0),
        c.self.invariant.1.1,
      ),
    )
