-- Bodies that have addresses are read piece after piece.
use Rattle.std.proofs.Common.{◌≡◌, ℕ, List, ◌++◌, Result, Ok, ap, ◌∙◌}
use Rattle.octet_fields.specs.Kinds.{join}
use Rattle.octet_fields.specs.Reading.{content_at, told, nothing_at}
use Rattle.octet_fields.specs.Texts.{IsOctets}
use Rattle.octet_fields.proofs.Records.{bind-same, front_at-join, contents_at-join, whole_takes}
use Rattle.pdu_fields.specs.declared.fault.Field.TheVariants.{ServiceType}
use Rattle.pdu_fields.specs.declared.fault.PduFault.{PduFault}
use Rattle.pdu_fields.specs.declared.fault.PduFault.TheVariants.{Extra}
use Rattle.pdu_fields.specs.Grammar.{Parts, Contents, AreWithin, ◌>>=◌, contents_at, front_at, text, source_parts, destination_parts}
use Rattle.pdu_fields.specs.Grammar.{envelope_parts, handling_parts, text_parts, message_parts, cancel_parts}
use Rattle.pdu_fields.specs.Addresses.{address_at, source_at, destination_at}
use Rattle.pdu_bodies.specs.Pieces.{envelope_at, message_at}
use Rattle.pdu_bodies.specs.Pieces.{cancelled_parts, cancel_at}

envelope-in_pieces : (octets : List ℕ) → front_at envelope_parts octets ≡ envelope_at octets
unfolding address_at envelope_at
envelope-in_pieces octets =
    bind-same (told (text ServiceType 6).fault (content_at (text ServiceType 6).kind octets))
    (λ x. front_at (source_parts ++ destination_parts) x.1 >>= λ y. Ok ((x.0, y.0), y.1))
    (λ x. source_at x.1 >>= λ y. destination_at y.1 >>= λ z. Ok ((x.0, join source_parts destination_parts y.0 z.0), z.1))
    (λ x. front_at-join source_parts destination_parts x.1 (λ y. Ok ((x.0, y.0), y.1)))

-- what stands behind the envelope and the handling
abbrev behind : Contents envelope_parts × List ℕ → Contents handling_parts × List ℕ → Result (Contents message_parts) PduFault
behind x y =
    front_at text_parts y.1 >>= λ z. nothing_at Extra z.1
    >>= λ _. Ok (join envelope_parts (handling_parts ++ text_parts) x.0 (join handling_parts text_parts y.0 z.0))

pub message-in_pieces : (octets : List ℕ) → contents_at message_parts octets ≡ message_at octets
unfolding message_at
message-in_pieces octets =
    contents_at-join Extra envelope_parts handling_parts text_parts octets
    ∙ ap (λ (r : Result (Contents envelope_parts × List ℕ) PduFault). r >>= λ x. front_at handling_parts x.1 >>= behind x) (envelope-in_pieces octets)

pub cancel-in_pieces : (octets : List ℕ) → contents_at cancel_parts octets ≡ cancel_at octets
unfolding address_at cancel_at
cancel-in_pieces octets = contents_at-join Extra cancelled_parts source_parts destination_parts octets

-- what is read is within the limits of its fields
pub read-within : (parts : Parts) (octets : List ℕ) (contents : Contents parts) → IsOctets octets → contents_at parts octets ≡ Ok contents →
    AreWithin parts contents
read-within parts octets contents are read = (whole_takes Extra parts octets contents are read).within
