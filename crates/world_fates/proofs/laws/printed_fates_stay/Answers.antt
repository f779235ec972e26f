use Rattle.world_fates.proofs.Fates.{fates_stay}
use Rattle.world_fates.proofs.laws.printed_fates_stay.Goals as goal

pub returns : goal.returns
returns c = fates_stay
