use Rattle.synod_learner.proofs.Hearing.{heard_other}
use Rattle.synod_learner.proofs.laws.other_packets_teach_nothing.Goals as goal

pub returns : goal.returns
returns c = heard_other
