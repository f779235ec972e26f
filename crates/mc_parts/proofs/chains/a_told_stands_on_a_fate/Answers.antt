use Rattle.mc_parts.proofs.Tellings.{told_stands}
use Rattle.mc_parts.proofs.chains.a_told_stands_on_a_fate.Goals as goal

pub returns : goal.returns
returns c = told_stands
