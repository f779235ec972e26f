use Rattle.table_laws.proofs.Granting.{grant_given, grant_refused, grant_settles}
use Rattle.table_laws.proofs.attempts.a_grant_settles.Goals as goal

pub returns-clause-refused : goal.returns-clause-refused
returns-clause-refused c first validity k t resting id = grant_refused first validity k t id resting

pub returns-clause-granted : goal.returns-clause-granted
returns-clause-granted c first validity k t resting id allowed = grant_given first validity k t id resting

pub returns-clause-settles : goal.returns-clause-settles
returns-clause-settles c first validity k t resting id allowed = grant_settles first validity k t id resting allowed
