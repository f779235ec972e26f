use Rattle.world_fates.proofs.Granting.{no_attempt_granted}
use Rattle.world_fates.proofs.laws.no_attempt_is_granted_after_a_fate.Goals as goal

pub returns : goal.returns
returns c = no_attempt_granted
