-- The fields of PDUs (SMPP 3.4, 3.1, 3.2 and 4): for each body the list of its fields, each with its kind, and which fault
-- it is that a field has no spelling at its place.
use Rattle.std.specs.Prelude.{ℕ, suc, List, [], ◌∷◌, ◌++◌, get_or, take, drop, Result}
use Rattle.std.specs.Int.{w32, from_be_bytes}
use Rattle.octet_fields.specs.declared.defect.Defect.{Defect}
use Rattle.octet_fields.specs.declared.defect.Defect.TheVariants as defects
use Rattle.octet_fields.specs.Kinds.{One, Number, Text, Counted, Parameters, any, Part}
use Rattle.octet_fields.specs.Reading.{content_at, told}
use Rattle.octet_fields.specs.Reading as fields
pub use Rattle.octet_fields.specs.Kinds.{Contents, spellings, AreWithin}
pub use Rattle.octet_fields.specs.Reading.{◌>>=◌, front_at, IsRead}
use Rattle.pdu_fields.specs.declared.fault.Field.{Field}
use Rattle.pdu_fields.specs.declared.fault.Field.TheVariants.{SystemId, Password, SystemType, InterfaceVersion, AddrTon, AddrNpi, AddressRange, ServiceType}
use Rattle.pdu_fields.specs.declared.fault.Field.TheVariants.{SourceAddrTon, SourceAddrNpi, SourceAddr, DestAddrTon, DestAddrNpi, DestinationAddr, EsmClass}
use Rattle.pdu_fields.specs.declared.fault.Field.TheVariants.{ProtocolId, PriorityFlag, ScheduleDeliveryTime, ValidityPeriod, RegisteredDelivery}
use Rattle.pdu_fields.specs.declared.fault.Field.TheVariants.{ReplaceIfPresentFlag, DataCoding, SmDefaultMsgId, SmLength, ShortMessage, MessageId, FinalDate}
use Rattle.pdu_fields.specs.declared.fault.Field.TheVariants.{MessageState, ErrorCode}
use Rattle.pdu_fields.specs.declared.fault.PduFault.{PduFault}
use Rattle.pdu_fields.specs.declared.fault.PduFault.TheVariants.{Cut, LongText, TextLength, Tlvs, Extra}

-- the number in the four octets at a place
abbrev pub word_at : ℕ → List ℕ → ℕ
word_at place octets = from_be_bytes w32 (take 4 (drop place octets))

-- ---- fields, and the faults that their defects are

abbrev pub Parts : Type 0
Parts = List (Part PduFault)

abbrev pub text_fault : Field → Defect → PduFault
text_fault field defects.Long = LongText field
text_fault field other = Cut field

-- a C-octet string below a limit
abbrev pub text : Field → ℕ → Part PduFault
text field limit = record { kind = Text limit; fault = text_fault field }

abbrev pub octet_fault : Field → Defect → PduFault
octet_fault field defect = Cut field

abbrev pub octet : Field → Part PduFault
octet field = record { kind = Number One any; fault = octet_fault field }

-- octets one behind another, each of them a field
abbrev pub octet_parts : List Field → Parts
octet_parts [] = []
octet_parts (first ∷ others) = octet first ∷ octet_parts others

-- what stands in them: the octets from a place on
abbrev pub octets_from : ℕ → (fields : List Field) → List ℕ → Contents (octet_parts fields)
octets_from place [] octets = tt
octets_from place (first ∷ others) octets = (get_or octets place 0, octets_from (suc place) others octets)

abbrev pub message_fault : Defect → PduFault
message_fault defects.Cut = Cut SmLength
message_fault defects.Few = Cut ShortMessage
message_fault other = TextLength

-- sm_length with the short_message
abbrev pub short_message : Part PduFault
short_message = record { kind = Counted One 254 any; fault = message_fault }

abbrev pub parameters_fault : Defect → PduFault
parameters_fault defect = Tlvs

-- the optional parameters, which end a body
abbrev pub parameters : Part PduFault
parameters = record { kind = Parameters 7000; fault = parameters_fault }

-- ---- the fields of each body, in order

abbrev pub bind_parts : Parts
bind_parts =
    text SystemId 16
    ∷ text Password 9
    ∷ text SystemType 13
    ∷ octet InterfaceVersion
    ∷ octet AddrTon
    ∷ octet AddrNpi
    ∷ text AddressRange 41
    ∷ []

abbrev pub bind_answer_parts : Parts
bind_answer_parts = text SystemId 16 ∷ parameters ∷ []

-- an address: its type of number, its numbering plan and its digits
abbrev pub address_parts : Field → Field → Field → Parts
address_parts ton npi digits = octet ton ∷ octet npi ∷ text digits 21 ∷ []

abbrev pub source_parts : Parts
source_parts = address_parts SourceAddrTon SourceAddrNpi SourceAddr

abbrev pub destination_parts : Parts
destination_parts = address_parts DestAddrTon DestAddrNpi DestinationAddr

-- a message: who it is from and to, how it is to be handled, and its text
abbrev pub envelope_parts : Parts
envelope_parts = text ServiceType 6 ∷ (source_parts ++ destination_parts)

abbrev pub handling_parts : Parts
handling_parts =
    octet EsmClass
    ∷ octet ProtocolId
    ∷ octet PriorityFlag
    ∷ text ScheduleDeliveryTime 17
    ∷ text ValidityPeriod 17
    ∷ octet RegisteredDelivery
    ∷ octet ReplaceIfPresentFlag
    ∷ octet DataCoding
    ∷ octet SmDefaultMsgId
    ∷ []

abbrev pub text_parts : Parts
text_parts = short_message ∷ parameters ∷ []

abbrev pub message_parts : Parts
message_parts = envelope_parts ++ handling_parts ++ text_parts

abbrev pub message_id_parts : Parts
message_id_parts = text MessageId 65 ∷ []

abbrev pub query_parts : Parts
query_parts = text MessageId 65 ∷ source_parts

abbrev pub query_answer_parts : Parts
query_answer_parts =
    text MessageId 65
    ∷ text FinalDate 17
    ∷ octet MessageState
    ∷ octet ErrorCode
    ∷ []

abbrev pub cancel_parts : Parts
cancel_parts = text ServiceType 6 ∷ text MessageId 65 ∷ (source_parts ++ destination_parts)

-- ---- reading, up to the first field that has no spelling at its place

-- the fields of a body, and no octet after the last
abbrev pub contents_at : (parts : Parts) → List ℕ → Result (Contents parts) PduFault
contents_at parts octets = fields.contents_at Extra parts octets

-- the optional parameters up to the end of a PDU
abbrev pub optional_at : List ℕ → Result (List (ℕ × List ℕ) × List ℕ) PduFault
optional_at octets = told parameters_fault (content_at (Parameters 7000) octets)
