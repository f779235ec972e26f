use Rattle.std.proofs.Common.{◌≡◌, ◌-◌}
use Rattle.account_limits.specs.Hashing as spec
use Rattle.account_limits.proofs.hmac.stretched.Given as goal

abbrev pub invariant-loop : goal.invariant-loop
invariant-loop l = spec.sum_after l.password (l.rounds - l.counter) l.last l.sum ≡ spec.stretched l.password l.salt l.rounds
