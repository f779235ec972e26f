use Rattle.std.proofs.Common.{refl, inl}
use Rattle.mc_laws.specs.Stories.{told_chain}
use Rattle.mc_laws.proofs.story.Delivery.{delivered_chosen, delivering_run, delivery_run}
use Rattle.mc_laws.proofs.stories.a_message_is_delivered.Goals as goal

pub returns-clause-delivered : goal.returns-clause-delivered
returns-clause-delivered c = delivering_run

pub returns-clause-chosen : goal.returns-clause-chosen
returns-clause-chosen c = delivered_chosen

pub returns-clause-run : goal.returns-clause-run
returns-clause-run c = delivery_run

pub returns-clause-told : goal.returns-clause-told
returns-clause-told c = λ message. inl refl

pub returns-clause-stated : goal.returns-clause-stated
returns-clause-stated c = λ message. record { chain = told_chain message; tells = (refl, refl); state = refl }
