use Rattle.std.proofs.Common.{refl, inl}
use Rattle.mc_laws.specs.Stories.{deleted_chain}
use Rattle.mc_laws.proofs.story.Questions.{cancel_run}
use Rattle.mc_laws.proofs.stories.a_message_is_cancelled.Goals as goal

pub returns-clause-run : goal.returns-clause-run
returns-clause-run c = cancel_run

pub returns-clause-answered : goal.returns-clause-answered
returns-clause-answered c = λ message. inl refl

pub returns-clause-stated : goal.returns-clause-stated
returns-clause-stated c = λ message. record { chain = deleted_chain message; tells = (refl, refl); state = refl }
