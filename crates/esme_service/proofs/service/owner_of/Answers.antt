use Rattle.esme_service.proofs.Owners.{first_owner}
use Rattle.esme_service.proofs.service.owner_of.Goals as goal

pub returns-in-Some-request_of : goal.returns-in-Some-request_of
returns-in-Some-request_of c =
    first_owner c.loop-number.number-iterator c.args.sessions.now.entries c.next.new.self c.in-Some.number.now c.in-Some.session.now c.requests.result.now
    c.args.ticket c.in-Some-request_of.request
    c.in-Some.ensures.steps c.loop-number.invariant c.requests.ensures.requests c.in-Some-request_of.ensures
