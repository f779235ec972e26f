use Rattle.std.proofs.Common.{◌≡◌}
use Rattle.esme_service.specs.Replies.{owner_of}
use Rattle.esme_service.proofs.service.owner_of.Given as goal

abbrev pub invariant-loop-number : goal.invariant-loop-number
invariant-loop-number l = owner_of l.number-iterator l.ticket ≡ owner_of l.sessions.entries l.ticket
