use Rattle.std.proofs.Common.{refl}
use Rattle.pdu_bodies.specs.Pieces.{cancel_at}
use Rattle.pdu_bodies.proofs.cancel.cancel_at.Goals as goal

pub returns : goal.returns
unfolding cancel_at
returns c =
    rw (c.in_ok-service_type.ensures.read, c.in_ok-message_id.ensures.read)
    (rw (c.in_ok-source.ensures.read, c.in_ok-destination.ensures.read, c.in_ok-nothing_at.ensures) refl)
