use Rattle.std.proofs.Common.{sym, subst, arith}
use Rattle.node_parts.specs.Rising.{AreRising}
use Rattle.node_parts.proofs.Naming.{one_more_at_most}
use Rattle.node_parts.proofs.Rising.{rise_put}
use Rattle.node_parts.proofs.message_ids.MessageIds.put.Goals as goal

pub put-requires-clause-room : goal.put-requires-clause-room
put-requires-clause-room c =
    let most = one_more_at_most c.args.id c.reserve.new.self.items in
    let room = c.in_ok-reserve.ensures.ok in
    omega (arith, most, room)

pub invariant_of-self-2 : goal.invariant_of-self-2
invariant_of-self-2 c =
    subst AreRising (sym c.put.ensures.ids)
    (rise_put c.args.id c.reserve.new.self.items (subst AreRising (sym c.reserve.ensures.items) c.self.invariant))
