use Rattle.std.proofs.Common.{refl, arith}
use Rattle.pdu_bodies.proofs.cancel.CancelOctets.cancel.Goals as goal

pub of-requires : goal.of-requires
of-requires c = (omega arith, c.requires.0)

pub of-requires-2 : goal.of-requires-2
of-requires-2 c = (omega arith, c.requires.1.0)

pub address-requires : goal.address-requires
address-requires c = c.requires.1.1.1.1.0

pub address-requires-2 : goal.address-requires-2
address-requires-2 c = c.requires.1.1.1.1.1.1.1.0

pub returns : goal.returns
returns c = rw (c.in_ok-of.ensures, c.in_ok-of-2.ensures, c.in_ok-address.ensures, c.in_ok-address-2.ensures) refl
