use Rattle.std.proofs.Common.{refl}
use Rattle.pdu_bodies.proofs.bind.bind_at.Goals as goal

pub returns : goal.returns
returns c =
    rw (c.in_ok-system_id.ensures.read, c.in_ok-password.ensures.read, c.in_ok-system_type.ensures.read, c.in_ok-interface_version.ensures)
    (rw (c.in_ok-addr_ton.ensures, c.in_ok-addr_npi.ensures, c.in_ok-address_range.ensures.read, c.in_ok-nothing_at.ensures) refl)
