use Rattle.mc_parts.proofs.Fates.{told_ends}
use Rattle.mc_parts.proofs.chains.a_told_is_the_end.Goals as goal

pub returns : goal.returns
returns c = told_ends
