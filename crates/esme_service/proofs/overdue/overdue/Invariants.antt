use Rattle.std.proofs.Common.{◌≡◌, ◌++◌}
use Rattle.esme_service.specs.Pushes.{overdue_in}
use Rattle.esme_service.proofs.overdue.overdue.Given as goal

-- what was found so far, and what of the sessions that are left waits too long
abbrev pub invariant-loop-number : goal.invariant-loop-number
invariant-loop-number l = l.overdue.items ++ overdue_in l._number-iterator l.now ≡ overdue_in l.sessions.entries l.now
