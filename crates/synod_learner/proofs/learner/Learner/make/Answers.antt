use Rattle.synod_learner.proofs.Hearing.{heard_nothing}
use Rattle.synod_learner.proofs.learner.Learner.make.Goals as goal

pub returns-clause-nothing : goal.returns-clause-nothing
returns-clause-nothing c = rw (c.new.ensures.items, c.new-2.ensures.items) (heard_nothing c.args.nodes)
