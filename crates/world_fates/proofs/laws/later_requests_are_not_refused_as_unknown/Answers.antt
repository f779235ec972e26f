use Rattle.world_fates.proofs.Sequences.{requests_known}
use Rattle.world_fates.proofs.laws.later_requests_are_not_refused_as_unknown.Goals as goal

pub returns : goal.returns
returns c = requests_known
