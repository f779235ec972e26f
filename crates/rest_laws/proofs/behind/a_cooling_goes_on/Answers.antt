use Rattle.rest_laws.proofs.runs.Cooling.{cools}
use Rattle.rest_laws.proofs.behind.a_cooling_goes_on.Goals as goal

pub returns : goal.returns
returns c = cools
