use Rattle.std.proofs.Common.{◌≡◌}
use Rattle.esme_service.specs.Pushes.{target_in}
use Rattle.esme_service.proofs.Receivers.{target_from}
use Rattle.esme_service.proofs.receiving.target_in.Given as goal

abbrev pub invariant-loop-number : goal.invariant-loop-number
invariant-loop-number l = target_from l.sessions.entries l.long l.target l.number-counter ≡ target_in l.sessions.entries l.long l.target
