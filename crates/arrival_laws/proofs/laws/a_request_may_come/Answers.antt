use Rattle.arrival_laws.proofs.Asking.{request_comes}
use Rattle.arrival_laws.proofs.laws.a_request_may_come.Goals as goal

pub returns : goal.returns
returns c setup k node lives begun account request = (request_comes setup k node lives begun account request).may
