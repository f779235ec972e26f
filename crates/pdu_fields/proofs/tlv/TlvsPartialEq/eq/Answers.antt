use Rattle.std.proofs.Common.{◌∙◌}
use Rattle.pdu_fields.proofs.Optional.{same-octets}
use Rattle.pdu_fields.proofs.tlv.TlvsPartialEq.eq.Goals as goal

pub returns : goal.returns
returns c =
    rw (← c.self.view_is, ← c.other.view_is)
    (c.eq.ensures ∙ same-octets c.self.inside.octets.items c.other.inside.octets.items c.self.invariant c.other.invariant)
