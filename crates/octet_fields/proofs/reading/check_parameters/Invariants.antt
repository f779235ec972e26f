use Rattle.std.proofs.Common.{◌≡◌, length, is_some}
use Rattle.octet_fields.proofs.Parameters.{tlvs_in}
use Rattle.octet_fields.proofs.reading.check_parameters.Given as goal

abbrev pub invariant-loop-after : goal.invariant-loop-after
invariant-loop-after l = is_some (tlvs_in l.rest) ≡ is_some (tlvs_in l.octets)

abbrev pub decreases-loop-after : goal.decreases-loop-after
decreases-loop-after l = length l.rest
