use Rattle.table_laws.proofs.AnyRequest.{request_settles, ticket_given}
use Rattle.table_laws.proofs.requests.a_request_settles.Goals as goal

pub returns-clause-ticket : goal.returns-clause-ticket
returns-clause-ticket c first validity k t resting request = ticket_given first validity k t resting request

pub returns-clause-settles : goal.returns-clause-settles
returns-clause-settles c first validity k t resting request may = request_settles first validity k t resting request may
