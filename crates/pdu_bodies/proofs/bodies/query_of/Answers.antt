use Rattle.std.proofs.Common.{refl}
use Rattle.pdu_fields.specs.Addresses.{address_at}
use Rattle.pdu_bodies.proofs.bodies.query_of.Goals as goal

pub returns : goal.returns
unfolding address_at
returns c =
    rw (c.in_ok-message_id.ensures.read, c.in_ok-source.ensures.read, c.in_ok-nothing_at.ensures, c.in_ok-of.ensures, c.in_ok-address.ensures) refl
