use Rattle.mc_parts.proofs.Lengths.{most_decrees}
use Rattle.mc_parts.proofs.chains.chains_are_short.Goals as goal

pub returns : goal.returns
returns c = most_decrees
