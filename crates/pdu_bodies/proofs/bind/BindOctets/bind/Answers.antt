use Rattle.std.proofs.Common.{refl, arith}
use Rattle.pdu_bodies.proofs.bind.BindOctets.bind.Goals as goal

pub of-requires : goal.of-requires
of-requires c = (omega arith, c.requires.0)

pub of-requires-2 : goal.of-requires-2
of-requires-2 c = (omega arith, c.requires.1.0)

pub of-requires-3 : goal.of-requires-3
of-requires-3 c = (omega arith, c.requires.1.1.0)

pub of-requires-4 : goal.of-requires-4
of-requires-4 c = (omega arith, c.requires.1.1.1.1.1.1.0)

pub returns : goal.returns
returns c = rw (c.in_ok-of.ensures, c.in_ok-of-2.ensures, c.in_ok-of-3.ensures, c.in_ok-of-4.ensures) refl
