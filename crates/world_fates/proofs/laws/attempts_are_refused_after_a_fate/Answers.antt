use Rattle.world_fates.proofs.Granting.{attempts_refused}
use Rattle.world_fates.proofs.laws.attempts_are_refused_after_a_fate.Goals as goal

pub returns : goal.returns
returns c = attempts_refused
