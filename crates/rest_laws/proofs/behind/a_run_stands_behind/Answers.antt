use Rattle.rest_laws.proofs.runs.Histories.{behind}
use Rattle.rest_laws.proofs.behind.a_run_stands_behind.Goals as goal

pub returns : goal.returns
returns c = behind
