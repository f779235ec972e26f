use Rattle.std.proofs.Common.{refl}
use Rattle.mc_parts.proofs.Fates.{state_of_untold}
use Rattle.mc_parts.proofs.chains.newest_decree_says_the_state.Goals as goal

pub returns-clause-newest : goal.returns-clause-newest
returns-clause-newest c = λ newest older. refl

pub returns-clause-untold : goal.returns-clause-untold
returns-clause-untold c = state_of_untold
