use Rattle.std.proofs.Common.{◌≡◌, ◌≤◌, take}
use Rattle.config_warnings.specs.Lines as spec
use Rattle.config_warnings.proofs.lines.newlines.Given as goal

abbrev pub invariant-loop-octet : goal.invariant-loop-octet
invariant-loop-octet l = (l.count ≡ spec.newlines (take l.octet-index l.octets)) × (l.count ≤ l.octet-index)
