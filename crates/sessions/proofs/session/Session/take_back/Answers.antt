use Rattle.std.proofs.Common.{◌==◌, arith}
use Rattle.sessions.proofs.Kept.{without_pushed}
use Rattle.sessions.proofs.session.Session.take_back.Goals as goal

pub invariant_of-self : goal.invariant_of-self
invariant_of-self c = (
  without_pushed _ (λ request. request.sequence == c.args.sequence) _ c.take_sequence.ensures.rest c.self.invariant.0,
  c.self.invariant.1,
  λ here. let room = c.self.invariant.2 here in omega (arith, c.take_sequence.ensures.room),
)
