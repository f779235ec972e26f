use Rattle.world_fates.proofs.Coming.{waiting_came}
use Rattle.world_fates.proofs.laws.requests_that_wait_came_in_octets.Goals as goal

pub returns : goal.returns
returns c = waiting_came
