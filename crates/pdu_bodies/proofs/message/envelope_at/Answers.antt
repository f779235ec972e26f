use Rattle.std.proofs.Common.{refl}
use Rattle.pdu_bodies.specs.Pieces.{envelope_at}
use Rattle.pdu_bodies.proofs.message.envelope_at.Goals as goal

pub returns : goal.returns
unfolding envelope_at
returns c =
    rw (c.in_ok-service_type.ensures.read, c.in_ok-source.ensures.read, c.in_ok-destination.ensures.read) refl
