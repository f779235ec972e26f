use Rattle.waiting_messages.proofs.Standing.{some_there, some_waits}
use Rattle.waiting_messages.proofs.lanes.Lanes.is_empty.Goals as goal

pub returns-clause-some : goal.returns-clause-some
returns-clause-some c some =
    rw (← c.self.view_is)
    (some_waits c.self.inside.waiting.keys c.self.inside.lanes.items c.self.invariant (some_there c.is_empty.result _ c.is_empty.ensures some))
