-- The body of a PDU: its command, and what fills the form of that command.
use Rattle.std.specs.Prelude.{ℕ, List, [], Option, Some, None, option_map, Result, Ok, Err}
use Rattle.pdu_tables.specs.declared.command.Command.{Command}
use Rattle.pdu_tables.specs.declared.command.Command.TheVariants as commands
use Rattle.pdu_fields.specs.declared.fault.PduFault.{PduFault}
use Rattle.pdu_fields.specs.declared.fault.PduFault.TheVariants as faults
use Rattle.pdu_bodies.specs.declared.pdu.Body.{Body}
use Rattle.pdu_bodies.specs.declared.pdu.Body.TheVariants.{BindReceiver, BindReceiverResp, BindTransmitter, BindTransmitterResp, BindTransceiver}
use Rattle.pdu_bodies.specs.declared.pdu.Body.TheVariants.{BindTransceiverResp, SubmitSm, SubmitSmResp, DeliverSm, DeliverSmResp, QuerySm, QuerySmResp}
use Rattle.pdu_bodies.specs.declared.pdu.Body.TheVariants.{CancelSm, CancelSmResp, Unbind, UnbindResp, EnquireLink, EnquireLinkResp, GenericNack}
use Rattle.pdu_fields.specs.Grammar.{contents_at, ◌>>=◌}
use Rattle.pdu_bodies.specs.Contents.{bind_contents, bind_from, bind_answer_contents, bind_answer_from, message_contents, message_from, message_id_contents}
use Rattle.pdu_bodies.specs.Contents.{message_id_from, query_contents, query_from, query_answer_contents, query_answer_from, cancel_contents, cancel_from}
use Rattle.pdu_bodies.specs.Forms.{form_of, Filling, filling_octets, FillingFits, filling_at}

-- a command, and what stands in its form
pub data Filled : Type 0 where
  Fills : (command : Command) → Filling (form_of command) → Filled

-- the command of a body, and what the body puts into its form
abbrev pub filled_by : Body → Filled
filled_by (BindReceiver bind) = Fills commands.BindReceiver (bind_contents bind)
filled_by (BindReceiverResp answer) = Fills commands.BindReceiverResp (option_map bind_answer_contents answer)
filled_by (BindTransmitter bind) = Fills commands.BindTransmitter (bind_contents bind)
filled_by (BindTransmitterResp answer) = Fills commands.BindTransmitterResp (option_map bind_answer_contents answer)
filled_by (BindTransceiver bind) = Fills commands.BindTransceiver (bind_contents bind)
filled_by (BindTransceiverResp answer) = Fills commands.BindTransceiverResp (option_map bind_answer_contents answer)
filled_by (SubmitSm message) = Fills commands.SubmitSm (message_contents message)
filled_by (SubmitSmResp answer) = Fills commands.SubmitSmResp (option_map message_id_contents answer)
filled_by (DeliverSm message) = Fills commands.DeliverSm (message_contents message)
filled_by (DeliverSmResp answer) = Fills commands.DeliverSmResp (option_map message_id_contents answer)
filled_by (QuerySm query) = Fills commands.QuerySm (query_contents query)
filled_by (QuerySmResp answer) = Fills commands.QuerySmResp (option_map query_answer_contents answer)
filled_by (CancelSm cancel) = Fills commands.CancelSm (cancel_contents cancel)
filled_by CancelSmResp = Fills commands.CancelSmResp tt
filled_by Unbind = Fills commands.Unbind tt
filled_by UnbindResp = Fills commands.UnbindResp tt
filled_by EnquireLink = Fills commands.EnquireLink tt
filled_by EnquireLinkResp = Fills commands.EnquireLinkResp tt
filled_by GenericNack = Fills commands.GenericNack tt

abbrev pub filled_command : Filled → Command
filled_command (Fills command filling) = command

abbrev pub command_in : Body → Command
command_in body = filled_command (filled_by body)

-- the body in whose form this stands
abbrev pub body_from : (command : Command) → Filling (form_of command) → Body
body_from commands.BindReceiver filling = BindReceiver (bind_from filling)
body_from commands.BindReceiverResp filling = BindReceiverResp (option_map bind_answer_from filling)
body_from commands.BindTransmitter filling = BindTransmitter (bind_from filling)
body_from commands.BindTransmitterResp filling = BindTransmitterResp (option_map bind_answer_from filling)
body_from commands.BindTransceiver filling = BindTransceiver (bind_from filling)
body_from commands.BindTransceiverResp filling = BindTransceiverResp (option_map bind_answer_from filling)
body_from commands.SubmitSm filling = SubmitSm (message_from filling)
body_from commands.SubmitSmResp filling = SubmitSmResp (option_map message_id_from filling)
body_from commands.DeliverSm filling = DeliverSm (message_from filling)
body_from commands.DeliverSmResp filling = DeliverSmResp (option_map message_id_from filling)
body_from commands.QuerySm filling = QuerySm (query_from filling)
body_from commands.QuerySmResp filling = QuerySmResp (option_map query_answer_from filling)
body_from commands.CancelSm filling = CancelSm (cancel_from filling)
body_from commands.CancelSmResp filling = CancelSmResp
body_from commands.Unbind filling = Unbind
body_from commands.UnbindResp filling = UnbindResp
body_from commands.EnquireLink filling = EnquireLink
body_from commands.EnquireLinkResp filling = EnquireLinkResp
body_from commands.GenericNack filling = GenericNack

abbrev pub octets_in : Filled → List ℕ
octets_in (Fills command filling) = filling_octets (form_of command) filling

abbrev pub body_octets : Body → List ℕ
body_octets body = octets_in (filled_by body)

abbrev pub FilledFits : Filled → Type 0
FilledFits (Fills command filling) = FillingFits (form_of command) filling

abbrev pub BodyFits : Body → Type 0
BodyFits body = FilledFits (filled_by body)

-- a body of no fields
abbrev pub bare_at : Body → List ℕ → Result Body PduFault
bare_at body octets = contents_at [] octets >>= λ _. Ok body

-- the body that the octets behind the header of a command are; a command that is none has no body
unfoldable pub body_at : Option Command → List ℕ → Result Body PduFault
body_at None octets = Err faults.Command
body_at (Some command) octets = filling_at (form_of command) octets >>= λ filling. Ok (body_from command filling)
