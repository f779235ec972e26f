use Rattle.mc_parts.proofs.Refusals.{judged, one_refusal, not_refused}
use Rattle.mc_parts.proofs.nodes.a_grant_is_given_or_refused_by_one_number.Goals as goal

pub returns-clause-judged : goal.returns-clause-judged
returns-clause-judged c = judged

pub returns-clause-one : goal.returns-clause-one
returns-clause-one c = one_refusal

pub returns-clause-not_both : goal.returns-clause-not_both
returns-clause-not_both c = λ nodes node a slot refusal may. not_refused nodes node a slot may refusal
