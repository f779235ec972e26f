use Rattle.table_laws.proofs.Granting.{response_settles}
use Rattle.table_laws.proofs.attempts.a_response_settles.Goals as goal

pub returns : goal.returns
returns c first validity k t resting id some outcome = response_settles first validity k t id resting some outcome
