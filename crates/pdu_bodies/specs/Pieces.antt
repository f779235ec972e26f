-- Bodies as they stand in octets, and those that have addresses read piece after piece.
use Rattle.std.specs.Prelude.{ℕ, List, [], ◌∷◌, ◌++◌, Result, Ok}
use Rattle.octet_fields.specs.Kinds.{join}
use Rattle.octet_fields.specs.Reading.{content_at, told, nothing_at}
use Rattle.pdu_fields.specs.declared.fault.Field.TheVariants.{ServiceType, MessageId}
use Rattle.pdu_fields.specs.declared.fault.PduFault.{PduFault}
use Rattle.pdu_fields.specs.declared.fault.PduFault.TheVariants.{Extra}
use Rattle.pdu_bodies.specs.declared.bind.BindOctets.{BindOctets}
use Rattle.pdu_bodies.specs.declared.cancel.CancelOctets.{CancelOctets}
use Rattle.pdu_bodies.specs.declared.message.Envelope.{Envelope}
use Rattle.pdu_bodies.specs.declared.message.MessageOctets.{MessageOctets}
use Rattle.pdu_bodies.specs.declared.message.Parties.{Parties}
use Rattle.pdu_fields.specs.Handling.{handling_contents}
use Rattle.pdu_fields.specs.Addresses.{address_contents, source_at, destination_at}
use Rattle.pdu_fields.specs.Grammar.{Parts, Contents, ◌>>=◌, text, source_parts, destination_parts, envelope_parts, handling_parts}
use Rattle.pdu_fields.specs.Grammar.{text_parts, message_parts, bind_parts, cancel_parts, front_at}
use Rattle.pdu_fields.specs.Tlv.{tlvs_in}

-- ---- what stands in a piece

abbrev pub envelope_contents : Envelope → Contents envelope_parts
envelope_contents e =
    (e.service_type.now, join source_parts destination_parts (address_contents e.source) (address_contents e.destination))

abbrev pub parties_contents : Parties → Contents envelope_parts
parties_contents p =
    (p.service_type, (p.source.ton, (p.source.npi, (p.source.digits, (p.destination.ton, (p.destination.npi, (p.destination.digits, tt)))))))

abbrev pub message_seen : MessageOctets → Contents message_parts
message_seen m =
    join envelope_parts (handling_parts ++ text_parts) (envelope_contents m.envelope)
    (join handling_parts text_parts (handling_contents m.handling) (m.short_message.now, (tlvs_in m.tlvs.now, tt)))

abbrev pub bind_seen : BindOctets → Contents bind_parts
bind_seen b =
    (b.system_id.now, (b.password.now, (b.system_type.now, (b.interface_version, (b.addr_ton, (b.addr_npi, (b.address_range.now, tt)))))))

abbrev pub cancel_seen : CancelOctets → Contents cancel_parts
cancel_seen c =
    (c.service_type.now, (c.message_id.now, join source_parts destination_parts (address_contents c.source) (address_contents c.destination)))

-- ---- reading

unfoldable pub envelope_at : List ℕ → Result (Contents envelope_parts × List ℕ) PduFault
envelope_at octets =
    told (text ServiceType 6).fault (content_at (text ServiceType 6).kind octets) >>= λ x. source_at x.1 >>= λ y. destination_at y.1
    >>= λ z. Ok ((x.0, join source_parts destination_parts y.0 z.0), z.1)

unfoldable pub message_at : List ℕ → Result (Contents message_parts) PduFault
message_at octets =
    envelope_at octets >>= λ x. front_at handling_parts x.1 >>= λ y. front_at text_parts y.1 >>= λ z. nothing_at Extra z.1
    >>= λ _. Ok (join envelope_parts (handling_parts ++ text_parts) x.0 (join handling_parts text_parts y.0 z.0))

-- of a cancel_sm what stands in front of the addresses
abbrev pub cancelled_parts : Parts
cancelled_parts = text ServiceType 6 ∷ text MessageId 65 ∷ []

unfoldable pub cancel_at : List ℕ → Result (Contents cancel_parts) PduFault
cancel_at octets =
    front_at cancelled_parts octets >>= λ x. source_at x.1 >>= λ y. destination_at y.1 >>= λ z. nothing_at Extra z.1
    >>= λ _. Ok (join cancelled_parts (source_parts ++ destination_parts) x.0 (join source_parts destination_parts y.0 z.0))
