use Rattle.std.proofs.Common.{◌≡◌, ◌++◌, filter, take}
use Rattle.sessions.specs.Windows.{is_overdue}
use Rattle.esme_service.proofs.overdue.add_overdue.Given as goal

abbrev pub invariant-loop-request : goal.invariant-loop-request
invariant-loop-request l = l.overdue.items ≡ l.fn.overdue.items ++ filter (is_overdue l.now) (take l.request-index l.pushed)
