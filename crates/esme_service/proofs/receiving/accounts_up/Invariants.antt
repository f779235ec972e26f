use Rattle.std.proofs.Common.{◌≡◌, ◌++◌}
use Rattle.esme_service.specs.Pushes.{accounts_up}
use Rattle.esme_service.proofs.Receivers.{accounts_from}
use Rattle.esme_service.proofs.receiving.accounts_up.Given as goal

abbrev pub invariant-loop-number : goal.invariant-loop-number
invariant-loop-number l = l.accounts.items ++ accounts_from l.sessions.entries l.number-counter ≡ accounts_up l.sessions.entries
