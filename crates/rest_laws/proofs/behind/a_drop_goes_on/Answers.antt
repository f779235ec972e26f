use Rattle.rest_laws.proofs.runs.Dropping.{drops}
use Rattle.rest_laws.proofs.behind.a_drop_goes_on.Goals as goal

pub returns : goal.returns
returns c = drops
