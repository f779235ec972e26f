use Rattle.std.proofs.Common.{refl}
use Rattle.pdu_fields.proofs.address.Address.copy.Goals as goal

pub returns : goal.returns
returns c = rw c.in_ok-digits.ensures refl
