use Rattle.world_fates.proofs.Sequences.{accepted_known}
use Rattle.world_fates.proofs.laws.accepted_ids_are_not_refused_at_once.Goals as goal

pub returns : goal.returns
returns c = accepted_known
