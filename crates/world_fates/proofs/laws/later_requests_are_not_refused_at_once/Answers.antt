use Rattle.world_fates.proofs.KnownAtOnce.{requests_known_at_once}
use Rattle.world_fates.proofs.laws.later_requests_are_not_refused_at_once.Goals as goal

pub returns : goal.returns
returns c = requests_known_at_once
