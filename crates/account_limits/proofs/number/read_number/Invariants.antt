use Rattle.std.proofs.Common.{◌≡◌, drop}
use Rattle.account_limits.specs.Numbers as spec
use Rattle.account_limits.proofs.number.read_number.Given as goal

abbrev pub invariant-loop-octet : goal.invariant-loop-octet
invariant-loop-octet l = spec.number_behind l.number (drop l.octet-index l.text) ≡ spec.number_behind 0 l.text
