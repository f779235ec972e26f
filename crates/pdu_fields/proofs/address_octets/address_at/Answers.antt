use Rattle.std.proofs.Common.{refl}
use Rattle.pdu_fields.specs.Addresses.{address_at}
use Rattle.pdu_fields.proofs.address_octets.address_at.Goals as goal

pub returns-clause-read : goal.returns-clause-read
unfolding address_at
returns-clause-read c = rw (c.in_ok-ton.ensures, c.in_ok-npi.ensures, c.in_ok-digits.ensures.read) refl
