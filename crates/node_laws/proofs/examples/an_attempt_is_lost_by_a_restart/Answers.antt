use Rattle.std.proofs.Common.{refl}
use Rattle.node_model.specs.Recorded.{has_record}
use Rattle.node_laws.proofs.examples.an_attempt_is_lost_by_a_restart.Goals as goal

pub returns-clause-known : goal.returns-clause-known
unfolding has_record
returns-clause-known c = refl

pub returns-clause-refused : goal.returns-clause-refused
unfolding has_record
returns-clause-refused c = refl

pub returns-clause-lost : goal.returns-clause-lost
unfolding has_record
returns-clause-lost c = refl

pub returns-clause-waits : goal.returns-clause-waits
unfolding has_record
returns-clause-waits c = refl

pub returns-clause-held_back : goal.returns-clause-held_back
unfolding has_record
returns-clause-held_back c = refl

pub returns-clause-again : goal.returns-clause-again
unfolding has_record
returns-clause-again c = refl
