use Rattle.std.proofs.Common.{◌≡◌, ◌<◌, drop}
use Rattle.config.specs.Digests as spec
use Rattle.config.proofs.digests.digest.Given as goal

abbrev pub invariant-loop-octet : goal.invariant-loop-octet
invariant-loop-octet l = (l.digest < 36028797018963913) × (spec.digest_from l.digest (drop l.octet-index l.octet-items) ≡ spec.digest_from 0 l.text)
