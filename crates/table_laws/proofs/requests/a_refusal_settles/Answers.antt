use Rattle.table_laws.proofs.AnyRequest.{refusal_given, refusal_settles}
use Rattle.table_laws.proofs.requests.a_refusal_settles.Goals as goal

pub returns-clause-refused : goal.returns-clause-refused
returns-clause-refused c first validity k t resting status = refusal_given first validity k t resting status

pub returns-clause-settles : goal.returns-clause-settles
returns-clause-settles c first validity k t resting status = refusal_settles first validity k t resting status
