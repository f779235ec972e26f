use Rattle.node_laws.proofs.invariant.Learning.{heard_still, known_before, known_more, nothing_heard}
use Rattle.node_laws.proofs.synod.what_is_heard_is_known.Goals as goal

pub returns-clause-nothing : goal.returns-clause-nothing
returns-clause-nothing c = nothing_heard

pub returns-clause-known : goal.returns-clause-known
returns-clause-known c = known_more

pub returns-clause-stays : goal.returns-clause-stays
returns-clause-stays c = known_before

pub returns-clause-others : goal.returns-clause-others
returns-clause-others c = heard_still
