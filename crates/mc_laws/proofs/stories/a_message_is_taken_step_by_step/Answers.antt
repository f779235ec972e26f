use Rattle.std.proofs.Common.{refl, inl}
use Rattle.mc_laws.proofs.story.TakingSteps.{taking_run}
use Rattle.mc_laws.proofs.stories.a_message_is_taken_step_by_step.Goals as goal

pub returns-clause-steps : goal.returns-clause-steps
returns-clause-steps c = taking_run

pub returns-clause-answered : goal.returns-clause-answered
returns-clause-answered c = λ message. inl refl
