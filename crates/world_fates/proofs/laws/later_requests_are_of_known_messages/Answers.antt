use Rattle.world_fates.proofs.Accepting.{later_requests}
use Rattle.world_fates.proofs.laws.later_requests_are_of_known_messages.Goals as goal

pub returns : goal.returns
returns c = later_requests
