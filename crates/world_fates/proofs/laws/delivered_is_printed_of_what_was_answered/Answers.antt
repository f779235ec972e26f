use Rattle.world_fates.proofs.Delivered.{delivered_by_answers}
use Rattle.world_fates.proofs.laws.delivered_is_printed_of_what_was_answered.Goals as goal

pub returns : goal.returns
returns c = delivered_by_answers
