use Rattle.world_fates.proofs.Answering.{answered_in_octets}
use Rattle.world_fates.proofs.laws.answers_come_in_octets.Goals as goal

pub returns : goal.returns
returns c = answered_in_octets
