use Rattle.std.proofs.Common.{refl, inl}
use Rattle.mc_laws.specs.Stories.{delivered_chain}
use Rattle.mc_laws.proofs.story.Questions.{query_run}
use Rattle.mc_laws.proofs.stories.a_query_is_answered.Goals as goal

pub returns-clause-run : goal.returns-clause-run
returns-clause-run c = query_run

pub returns-clause-answered : goal.returns-clause-answered
returns-clause-answered c = λ message. inl refl

pub returns-clause-stated : goal.returns-clause-stated
returns-clause-stated c = λ message. record { chain = delivered_chain message; tells = (refl, refl); state = refl }
