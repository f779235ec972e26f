use Rattle.std.proofs.Common.{Bool, true, false, cond, ◌==◌}
use Rattle.sessions.specs.Laws.{Rise}
use Rattle.sessions.specs.Session.{Session}
use Rattle.sessions.specs.Steps.{can_wait}
use Rattle.sessions.proofs.Tickets.{rise_added, rise_left, apart}
use Rattle.sessions.proofs.laws.tickets_are_apart.Goals as goal

either_way : (b : Bool) (session waits : Session) → Rise session.requests → Rise waits.requests → Rise (cond b waits session).requests
either_way true session waits old new = new
either_way false session waits old new = old

pub returns-clause-waiting : goal.returns-clause-waiting
returns-clause-waiting c session request rise below =
    either_way (can_wait session) session _ rise (rise_added session.requests request rise below)

pub returns-clause-replies : goal.returns-clause-replies
returns-clause-replies c session ticket rise = rise_left session.requests (λ request. request.ticket == ticket) rise

pub returns-clause-apart : goal.returns-clause-apart
returns-clause-apart c session ticket rise = apart session.requests ticket rise
