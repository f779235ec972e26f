use Rattle.rest_laws.proofs.without.Stepping.{run_same}
use Rattle.rest_laws.proofs.rest.a_run_does_without_what_is_at_rest.Goals as goal

pub returns : goal.returns
returns c = run_same
