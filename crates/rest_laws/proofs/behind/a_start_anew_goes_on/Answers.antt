use Rattle.rest_laws.proofs.runs.Starting.{starts}
use Rattle.rest_laws.proofs.behind.a_start_anew_goes_on.Goals as goal

pub returns : goal.returns
returns c = starts
