use Rattle.mc_laws.proofs.story.Ticks.{try_step, held_back_step, expire_step, undeliver_step, close_step, lose_step, give_up_step, announce_step}
use Rattle.mc_laws.proofs.story.Retrying.{take_step, follow_step, delete_step}
use Rattle.mc_laws.proofs.steps_of_nodes.a_tick_starts_a_round.Goals as goal

pub returns-clause-attempt : goal.returns-clause-attempt
returns-clause-attempt c = try_step

pub returns-clause-held_back : goal.returns-clause-held_back
returns-clause-held_back c = held_back_step

pub returns-clause-expire : goal.returns-clause-expire
returns-clause-expire c = expire_step

pub returns-clause-undeliver : goal.returns-clause-undeliver
returns-clause-undeliver c = undeliver_step

pub returns-clause-close : goal.returns-clause-close
returns-clause-close c = close_step

pub returns-clause-lose : goal.returns-clause-lose
returns-clause-lose c = lose_step

pub returns-clause-give_up : goal.returns-clause-give_up
returns-clause-give_up c = give_up_step

pub returns-clause-announce : goal.returns-clause-announce
returns-clause-announce c = announce_step

pub returns-clause-take : goal.returns-clause-take
returns-clause-take c = take_step

pub returns-clause-follow : goal.returns-clause-follow
returns-clause-follow c = follow_step

pub returns-clause-delete : goal.returns-clause-delete
returns-clause-delete c = delete_step
