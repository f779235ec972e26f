use Rattle.std.proofs.Common.{◌≡◌, filter, take}
use Rattle.sessions.specs.Windows.{is_overdue}
use Rattle.sessions.proofs.pushed.Abandoned.at.Given as goal

abbrev pub invariant-loop-request : goal.invariant-loop-request
invariant-loop-request l = l.overdue.items ≡ filter (is_overdue l.now) (take l.request-index l.pushed)
