-- The form of each command (SMPP 3.4, 4): which fields stand behind its header, and whether it may leave them out.
use Rattle.std.specs.Prelude.{◌==◌, List, [], length, Option, Some, None, Result, Ok, if◌then◌else◌, IfSome, ℕ}
use Rattle.pdu_tables.specs.declared.command.Command.{Command}
use Rattle.pdu_tables.specs.declared.command.Command.TheVariants.{GenericNack, BindReceiver, BindReceiverResp, BindTransmitter, BindTransmitterResp, QuerySm}
use Rattle.pdu_tables.specs.declared.command.Command.TheVariants.{QuerySmResp, SubmitSm, SubmitSmResp, DeliverSm, DeliverSmResp, Unbind, UnbindResp, CancelSm}
use Rattle.pdu_tables.specs.declared.command.Command.TheVariants.{CancelSmResp, BindTransceiver, BindTransceiverResp, EnquireLink, EnquireLinkResp}
use Rattle.pdu_fields.specs.declared.fault.PduFault.{PduFault}
use Rattle.pdu_fields.specs.Grammar.{Parts, Contents, spellings, AreWithin, contents_at, ◌>>=◌, bind_parts, bind_answer_parts, message_parts, message_id_parts}
use Rattle.pdu_fields.specs.Grammar.{query_parts, query_answer_parts, cancel_parts}

-- A command has these fields; or, in a response, it may have them: one of 16 octets has none of them (own).
pub data Form : Type 0 where
  Has : Parts → Form
  MayHave : Parts → Form

abbrev pub form_of : Command → Form
form_of BindReceiver = Has bind_parts
form_of BindReceiverResp = MayHave bind_answer_parts
form_of BindTransmitter = Has bind_parts
form_of BindTransmitterResp = MayHave bind_answer_parts
form_of BindTransceiver = Has bind_parts
form_of BindTransceiverResp = MayHave bind_answer_parts
form_of SubmitSm = Has message_parts
form_of SubmitSmResp = MayHave message_id_parts
form_of DeliverSm = Has message_parts
form_of DeliverSmResp = MayHave message_id_parts
form_of QuerySm = Has query_parts
form_of QuerySmResp = MayHave query_answer_parts
form_of CancelSm = Has cancel_parts
form_of CancelSmResp = Has []
form_of Unbind = Has []
form_of UnbindResp = Has []
form_of EnquireLink = Has []
form_of EnquireLinkResp = Has []
form_of GenericNack = Has []

abbrev pub parts_of : Form → Parts
parts_of (Has parts) = parts
parts_of (MayHave parts) = parts

-- what stands in a form
abbrev pub Filling : Form → Type 0
Filling (Has parts) = Contents parts
Filling (MayHave parts) = Option (Contents parts)

abbrev pub filling_octets : (form : Form) → Filling form → List ℕ
filling_octets (Has parts) contents = spellings parts contents
filling_octets (MayHave parts) None = []
filling_octets (MayHave parts) (Some contents) = spellings parts contents

-- each field is within its limits
abbrev pub FillingFits : (form : Form) → Filling form → Type 0
FillingFits (Has parts) contents = AreWithin parts contents
FillingFits (MayHave parts) filling = IfSome filling (AreWithin parts)

-- what the octets behind a header fill a form with, all of them
abbrev pub filling_at : (form : Form) → List ℕ → Result (Filling form) PduFault
filling_at (Has parts) octets = contents_at parts octets
filling_at (MayHave parts) octets =
    if length octets == 0 then Ok None else (contents_at parts octets >>= λ contents. Ok (Some contents))
