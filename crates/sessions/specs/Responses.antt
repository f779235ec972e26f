-- The PDUs that answer a PDU in its own step (SMPP 3.4, 4.1, 4.2, 4.3 and 4.11).
use Rattle.std.specs.Prelude.{ℕ, nat_le, List, [], ◌∷◌, Option, Some, None, if◌then◌else◌}
use Rattle.accounts.specs.declared.role.Role.{Role}
use Rattle.accounts.specs.declared.role.Role.TheVariants as roles
use Rattle.pdu_tables.specs.declared.command.Command.{Command}
use Rattle.pdu_tables.specs.declared.command.Command.TheVariants as commands
use Rattle.pdu_tables.specs.declared.status.Status.{Status}
use Rattle.pdu_tables.specs.declared.status.Status.TheVariants as statuses
use Rattle.pdu_tables.specs.StatusCodes.{status_code}
use Rattle.pdu_bodies.specs.declared.pdu.Pdu.{Pdu}
use Rattle.pdu_bodies.specs.declared.pdu.BindAnswer.{BindAnswer}
use Rattle.pdu_bodies.specs.declared.pdu.Body.{Body}
use Rattle.pdu_bodies.specs.declared.pdu.Body.TheVariants.{BindReceiverResp, BindTransmitterResp, BindTransceiverResp, SubmitSmResp}
use Rattle.pdu_bodies.specs.declared.pdu.Body.TheVariants.{DeliverSmResp, QuerySmResp, CancelSmResp, UnbindResp, EnquireLinkResp}
use Rattle.pdu_bodies.specs.declared.pdu.Body.TheVariants.{GenericNack}
use Rattle.sessions.specs.declared.requested.Requested.{Requested}
use Rattle.sessions.specs.declared.requested.Requested.TheVariants as requests
use Rattle.sessions.specs.declared.response.Response.{Response}
use Rattle.sessions.specs.declared.response.Response.TheVariants.{Nack, Refused, Bound, Unbound, Linked}
use Rattle.sessions.specs.declared.response.Outgoing.{Outgoing}

-- the request that a command is, if it is one
abbrev pub requested_by : Option Command → Option Requested
requested_by (Some commands.BindReceiver) = Some requests.BindReceiver
requested_by (Some commands.BindTransmitter) = Some requests.BindTransmitter
requested_by (Some commands.BindTransceiver) = Some requests.BindTransceiver
requested_by (Some commands.SubmitSm) = Some requests.SubmitSm
requested_by (Some commands.DeliverSm) = Some requests.DeliverSm
requested_by (Some commands.QuerySm) = Some requests.QuerySm
requested_by (Some commands.CancelSm) = Some requests.CancelSm
requested_by (Some commands.Unbind) = Some requests.Unbind
requested_by (Some commands.EnquireLink) = Some requests.EnquireLink
requested_by other = None

-- the bind in a role
abbrev pub bind_request : Role → Requested
bind_request roles.Transmitter = requests.BindTransmitter
bind_request roles.Receiver = requests.BindReceiver
bind_request roles.Transceiver = requests.BindTransceiver

-- the body of the response that refuses a request: none behind the header (own)
abbrev pub refusal_body : Requested → Body
refusal_body requests.BindReceiver = BindReceiverResp None
refusal_body requests.BindTransmitter = BindTransmitterResp None
refusal_body requests.BindTransceiver = BindTransceiverResp None
refusal_body requests.SubmitSm = SubmitSmResp None
refusal_body requests.DeliverSm = DeliverSmResp None
refusal_body requests.QuerySm = QuerySmResp None
refusal_body requests.CancelSm = CancelSmResp
refusal_body requests.Unbind = UnbindResp
refusal_body requests.EnquireLink = EnquireLinkResp

-- it answers a bind that succeeds
abbrev pub AnswersBind : Response → Type 0
AnswersBind (Nack status) = ⊥
AnswersBind (Refused request status) = ⊥
AnswersBind (Bound role version) = Unit {0}
AnswersBind Unbound = ⊥
AnswersBind Linked = ⊥

-- What a bind is answered that succeeds: the centre's system_id, and, if the ESME knows optional parameters, the
-- sc_interface_version 0x34 (SMPP 3.4, 4.1.2 and 5.3.2.25).
abbrev pub bound_answer : List ℕ → ℕ → BindAnswer
bound_answer system_id interface_version = record {
  system_id = system_id;
  tlvs = if nat_le 0x34 interface_version then (0x0210, 0x34 ∷ []) ∷ [] else [];
}

-- the response to a bind has the bind's own command
abbrev pub bound_body : Role → BindAnswer → Body
bound_body roles.Transmitter answer = BindTransmitterResp (Some answer)
bound_body roles.Receiver answer = BindReceiverResp (Some answer)
bound_body roles.Transceiver answer = BindTransceiverResp (Some answer)

abbrev pub pdu_with : Status → ℕ → Body → Pdu
pdu_with status sequence body = record { status = status_code status; sequence = sequence; body = body }

-- the PDU that a response of the centre with this system_id is
abbrev pub response_pdu : List ℕ → ℕ → Response → Pdu
response_pdu system_id sequence (Nack status) = pdu_with status sequence GenericNack
response_pdu system_id sequence (Refused requested status) = pdu_with status sequence (refusal_body requested)
response_pdu system_id sequence (Bound role interface_version) = pdu_with statuses.Ok sequence (bound_body role (bound_answer system_id interface_version))
response_pdu system_id sequence Unbound = pdu_with statuses.Ok sequence UnbindResp
response_pdu system_id sequence Linked = pdu_with statuses.Ok sequence EnquireLinkResp

abbrev pub pdu_of : List ℕ → Outgoing → Pdu
pdu_of system_id outgoing = response_pdu system_id outgoing.sequence outgoing.response
