-- A deliver_sm for an ESME that knows no optional parameters (SMPP 3.4, 4.6.1 and 5.2.4).
use Rattle.std.specs.Prelude.{ℕ, Bool, false, List, Option, Some, None, Result, Ok, Err, if◌then◌else◌}
use Rattle.pdu_fields.specs.declared.fault.PduFault.{PduFault}
use Rattle.pdu_bodies.specs.declared.pdu.Body.{Body}
use Rattle.pdu_bodies.specs.declared.pdu.Body.TheVariants.{DeliverSm}
use Rattle.pdu_bodies.specs.declared.pdu.Pdu.{Pdu}
use Rattle.pdu_codec.specs.Pdu.{octets_of, read_pdu}
use Rattle.esme_service.specs.Pushes.{with_optional}

-- the octets of a PDU of this status and sequence_number without optional parameters, if its body is that of a deliver_sm
abbrev pub fitted_body : ℕ → ℕ → Body → Option (List ℕ)
fitted_body status sequence (DeliverSm message) =
    Some (octets_of (record { status = status; sequence = sequence; body = DeliverSm (with_optional false message) }))
fitted_body status sequence _ = None

abbrev pub fitted : Pdu → Option (List ℕ)
fitted pdu = fitted_body pdu.status pdu.sequence pdu.body

-- of what octets are read as
abbrev pub fitted_read : Result Pdu PduFault → Option (List ℕ)
fitted_read (Ok pdu) = fitted pdu
fitted_read (Err fault) = None

-- as an ESME is to get them that knows optional parameters or not: a text that is too long for a short_message is one of those
abbrev pub fitted_for : Bool → Bool → List ℕ → Option (List ℕ)
fitted_for knows_optional long octets =
    if knows_optional then Some octets else if long then None else fitted_read (read_pdu octets)
