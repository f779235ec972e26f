use Rattle.std.proofs.Common.{not, arith}
use Rattle.sessions.specs.Windows.{is_overdue}
use Rattle.sessions.proofs.Kept.{filtered_pushed}
use Rattle.sessions.proofs.session.Session.let_go_overdue.Goals as goal

pub invariant_of-self : goal.invariant_of-self
invariant_of-self c = (
  filtered_pushed _ (λ request. not (is_overdue c.args.now request)) _ c.retain_timely.ensures.kept c.self.invariant.0,
  c.self.invariant.1,
  λ here. let room = c.self.invariant.2 here in omega (arith, c.retain_timely.ensures.room),
)
