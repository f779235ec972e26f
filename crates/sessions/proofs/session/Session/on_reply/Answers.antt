use Rattle.std.proofs.Common.{◌==◌, arith}
use Rattle.sessions.proofs.Kept.{without_request}
use Rattle.sessions.proofs.session.Session.on_reply.Goals as goal

pub invariant_of-self : goal.invariant_of-self
invariant_of-self c = (
  without_request _ (λ request. request.ticket == c.args.ticket) _ c.take_ticket.ensures.rest c.self.invariant.0,
  omega (arith, c.take_ticket.ensures.room),
  c.self.invariant.2,
)
