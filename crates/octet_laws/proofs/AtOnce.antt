-- No cancel_sm_resp with ESME_ROK goes out at once.
use Rattle.std.proofs.Common.{◌≡◌, ℕ, ◌^◌, ◌%◌, Bool, true, false, List, [], Option, Some, None, Result, Ok, Err, refl, sym, subst, arith}
use Rattle.std.specs.Prelude.{◌==◌, find, if◌then◌else◌, option_map}
use Rattle.std.specs.Str.{bytes_eq}
use Rattle.accounts.specs.Accounts.{account_of, bind_refusal}
use Rattle.accounts.specs.declared.account.Account.{Account}
use Rattle.accounts.specs.declared.role.Role.{Role}
use Rattle.accounts.specs.declared.role.Role.TheVariants as roles
use Rattle.accounts.specs.declared.route.Route.{Route}
use Rattle.mc_model.specs.node.Actor.{Cancel, Request as Waited}
use Rattle.mc_model.specs.node.Input.{Arrival, Refusal}
use Rattle.mc_types.specs.Texts.{id_in}
use Rattle.node_model.specs.Stepped.{stepped_down, stepped_up}
use Rattle.pdu_bodies.specs.declared.pdu.Bind.{Bind}
use Rattle.pdu_bodies.specs.declared.pdu.Body.{Body}
use Rattle.pdu_bodies.specs.declared.pdu.Body.TheVariants as bodies
use Rattle.pdu_bodies.specs.declared.pdu.Pdu.{Pdu}
use Rattle.pdu_codec.specs.Bodies.{command_in}
use Rattle.pdu_fields.specs.declared.fault.PduFault.{PduFault}
use Rattle.pdu_fields.specs.declared.fault.PduFault.TheVariants as faults
use Rattle.pdu_fields.specs.declared.fault.Field.{Field}
use Rattle.pdu_fields.specs.declared.fault.Field.TheVariants as fields
use Rattle.pdu_tables.specs.StatusCodes.{status_code}
use Rattle.pdu_tables.specs.declared.command.Command.{Command}
use Rattle.pdu_tables.specs.declared.command.Command.TheVariants as commands
use Rattle.pdu_tables.specs.declared.status.Status.{Status}
use Rattle.pdu_tables.specs.declared.status.Status.TheVariants as statuses
use Rattle.sessions.specs.Faults.{status_of_long, told_of}
use Rattle.sessions.specs.Session.{Session}
use Rattle.sessions.specs.States.{in_state, is_gone}
use Rattle.sessions.specs.Responses.{bind_request, pdu_of, requested_by, response_pdu}
use Rattle.sessions.specs.Steps.{answers_to, asks, bind_in, binds_by, binds_unless, leaves, on_cell, on_fault, on_pdu, on_wrong_length, refused}
use Rattle.sessions.specs.Steps.{request_in, responds}
use Rattle.sessions.specs.Steps.{stays}
use Rattle.sessions.specs.Table.{Answers, Asks, Binds, Cell, Drops, Links, NotServed, Refuses, Unbinds, cell_of}
use Rattle.sessions.specs.Windows.{has_room}
use Rattle.sessions.specs.declared.pushed.Pushed.{Pushed}
use Rattle.sessions.specs.declared.reaction.Reaction.{Reaction}
use Rattle.sessions.specs.declared.reaction.Reaction.TheVariants as reactions
use Rattle.sessions.specs.declared.requested.Requested.{Requested}
use Rattle.sessions.specs.declared.requested.Requested.TheVariants as requests
use Rattle.sessions.specs.declared.response.Response.{Response}
use Rattle.sessions.specs.declared.response.Response.TheVariants.{Bound, Nack, Refused}
use Rattle.sessions.specs.declared.state.SessionState.{SessionState}
use Rattle.sessions.specs.declared.state.SessionState.TheVariants as states
use Rattle.desk.specs.Admissions.{about, admitted, asks_about}
use Rattle.desk.specs.Arrivals.{judged_as}
use Rattle.desk.specs.declared.door.Door.{Door}
use Rattle.desk.specs.declared.request.Request.{Request}
use Rattle.desk.specs.declared.request.Request.TheVariants as asked
use Rattle.script_text.specs.Node.{Node, step_at}
use Rattle.script_text.specs.Responses.{refused_with}
use Rattle.script_text.specs.Runner.{request_of}

-- it is no cancel_sm_resp with ESME_ROK, of whose number four octets go out
abbrev pub IsNoDeletion : Pdu → Type 0
IsNoDeletion pdu = pdu.body ≡ bodies.CancelSmResp → pdu.status % 2 ^ 32 ≡ 0 → ⊥

-- the status of a refusal
abbrev IsNotOk : Status → Type 0
IsNotOk status = status_code status % 2 ^ 32 ≡ 0 → ⊥

-- ---- what a session answers

-- what goes out is none
abbrev pub SaysNone : List ℕ → Reaction → Type 0
SaysNone system_id reactions.Nothing = Unit {0}
SaysNone system_id (reactions.Respond outgoing) = IsNoDeletion (pdu_of system_id outgoing)
SaysNone system_id (reactions.Leave outgoing abandoned) = IsNoDeletion (pdu_of system_id outgoing)
SaysNone system_id (reactions.Ask requested) = Unit {0}
SaysNone system_id (reactions.Answered pushed) = Unit {0}

bound_none : (system_id : List ℕ) (sequence version : ℕ) (role : Role) → IsNoDeletion (response_pdu system_id sequence (Bound role version))
bound_none system_id sequence version roles.Transmitter body status = cc
bound_none system_id sequence version roles.Receiver body status = cc
bound_none system_id sequence version roles.Transceiver body status = cc

bind_none : (system_id : List ℕ) (sequence : ℕ) (role : Role) (status : Status) →
    IsNoDeletion (response_pdu system_id sequence (Refused (bind_request role) status))
bind_none system_id sequence roles.Transmitter status body is = cc
bind_none system_id sequence roles.Receiver status body is = cc
bind_none system_id sequence roles.Transceiver status body is = cc

refused_none : (system_id : List ℕ) (sequence : ℕ) (requested : Option Requested) (status : Status) → IsNotOk status →
    SaysNone system_id (refused sequence requested status)
refused_none system_id sequence None status bad = tt
refused_none system_id sequence (Some request) status bad = λ body is. bad is

-- a cell that refuses does so
abbrev RefusesSo : Cell → Type 0
RefusesSo (Refuses status) = IsNotOk status
RefusesSo (Binds role) = Unit {0}
RefusesSo Asks = Unit {0}
RefusesSo Unbinds = Unit {0}
RefusesSo Links = Unit {0}
RefusesSo NotServed = Unit {0}
RefusesSo Answers = Unit {0}
RefusesSo Drops = Unit {0}

in_each : (state : SessionState) (a b c d e : Cell) → RefusesSo a → RefusesSo b → RefusesSo c → RefusesSo d → RefusesSo e → RefusesSo (in_state state a b c d e)
in_each states.Fresh a b c d e one two three four five = one
in_each states.Transmitter a b c d e one two three four five = two
in_each states.Receiver a b c d e one two three four five = three
in_each states.Transceiver a b c d e one two three four five = four
in_each states.Gone a b c d e one two three four five = five

bound_again : IsNotOk statuses.AlreadyBound
bound_again is = omega (arith, is)

not_fit : IsNotOk statuses.InvalidBindStatus
not_fit is = omega (arith, is)

cell_refuses : (command : Command) (state : SessionState) → RefusesSo (cell_of command state)
cell_refuses commands.BindReceiver state = in_each state _ _ _ _ _ tt bound_again bound_again bound_again tt
cell_refuses commands.BindTransmitter state = in_each state _ _ _ _ _ tt bound_again bound_again bound_again tt
cell_refuses commands.BindTransceiver state = in_each state _ _ _ _ _ tt bound_again bound_again bound_again tt
cell_refuses commands.SubmitSm state = in_each state _ _ _ _ _ not_fit tt not_fit tt tt
cell_refuses commands.QuerySm state = in_each state _ _ _ _ _ not_fit tt not_fit tt tt
cell_refuses commands.CancelSm state = in_each state _ _ _ _ _ not_fit tt not_fit tt tt
cell_refuses commands.Unbind state = in_each state _ _ _ _ _ not_fit tt tt tt tt
cell_refuses commands.EnquireLink state = in_each state _ _ _ _ _ tt tt tt tt tt
cell_refuses commands.DeliverSm state = in_each state _ _ _ _ _ tt tt tt tt tt
cell_refuses commands.DeliverSmResp state = in_each state _ _ _ _ _ tt tt tt tt tt
cell_refuses commands.GenericNack state = in_each state _ _ _ _ _ tt tt tt tt tt
cell_refuses commands.BindReceiverResp state = tt
cell_refuses commands.BindTransmitterResp state = tt
cell_refuses commands.BindTransceiverResp state = tt
cell_refuses commands.SubmitSmResp state = tt
cell_refuses commands.QuerySmResp state = tt
cell_refuses commands.CancelSmResp state = tt
cell_refuses commands.UnbindResp state = tt
cell_refuses commands.EnquireLinkResp state = tt

binds_none : (system_id : List ℕ) (session : Session) (sequence : ℕ) (role : Role) (bind : Bind) (refusal : Option Status) →
    SaysNone system_id (binds_unless refusal session sequence role bind).reaction
binds_none system_id session sequence role bind None = bound_none system_id sequence bind.interface_version role
binds_none system_id session sequence role bind (Some status) = bind_none system_id sequence role status

bind_by_none : (system_id : List ℕ) (accounts : List Account) (session : Session) (sequence : ℕ) (role : Role) (bind : Option Bind) →
    SaysNone system_id (binds_by accounts session sequence role bind).reaction
bind_by_none system_id accounts session sequence role None = tt
bind_by_none system_id accounts session sequence role (Some bind) =
    binds_none system_id session sequence role bind (bind_refusal (account_of accounts bind.system_id) role bind)

asks_none : (system_id : List ℕ) (session : Session) (sequence : ℕ) (requested : Option Requested) → SaysNone system_id (asks session sequence requested)
asks_none system_id session sequence None = tt
asks_none system_id session sequence (Some requested) = by_room (has_room session.requests)
  where
    by_room : (room : Bool) → SaysNone system_id (if room then reactions.Ask requested else refused sequence (Some requested) statuses.Throttled)
    by_room true = tt
    by_room false = refused_none system_id sequence (Some requested) statuses.Throttled (λ is. omega (arith, is))

answers_none : (system_id : List ℕ) (pushed : Option Pushed) → SaysNone system_id (answers_to pushed)
answers_none system_id None = tt
answers_none system_id (Some pushed) = tt

cell_none : (system_id : List ℕ) (accounts : List Account) (session : Session) (pdu : Pdu) (cell : Cell) → RefusesSo cell →
    SaysNone system_id (on_cell accounts session pdu cell).reaction
cell_none system_id accounts session pdu (Binds role) so = bind_by_none system_id accounts session pdu.sequence role (bind_in pdu.body)
cell_none system_id accounts session pdu (Refuses status) so = refused_none system_id pdu.sequence (request_in pdu) status so
cell_none system_id accounts session pdu Asks so = asks_none system_id session pdu.sequence (request_in pdu)
cell_none system_id accounts session pdu Unbinds so = λ body is. cc
cell_none system_id accounts session pdu Links so = λ body is. cc
cell_none system_id accounts session pdu NotServed so = λ body is. cc
cell_none system_id accounts session pdu Answers so = answers_none system_id _
cell_none system_id accounts session pdu Drops so = tt

pub pdu_none : (system_id : List ℕ) (accounts : List Account) (session : Session) (pdu : Pdu) → SaysNone system_id (on_pdu accounts session pdu).reaction
pdu_none system_id accounts session pdu =
    cell_none system_id accounts session pdu (cell_of (command_in pdu.body) session.state) (cell_refuses (command_in pdu.body) session.state)

pub length_none : (system_id : List ℕ) (session : Session) → SaysNone system_id (on_wrong_length session).reaction
length_none system_id session = by_gone (is_gone session.state)
  where
    by_gone : (gone : Bool) →
        SaysNone system_id (if gone then stays session reactions.Nothing else leaves session 0 (Nack statuses.InvalidCommandLength)).reaction
    by_gone true = tt
    by_gone false = λ body is. cc

long_not_ok : (field : Field) → IsNotOk (status_of_long field)
long_not_ok fields.ServiceType is = omega (arith, is)
long_not_ok fields.SourceAddr is = omega (arith, is)
long_not_ok fields.DestinationAddr is = omega (arith, is)
long_not_ok fields.MessageId is = omega (arith, is)
long_not_ok fields.ScheduleDeliveryTime is = omega (arith, is)
long_not_ok fields.ValidityPeriod is = omega (arith, is)
long_not_ok fields.SystemId is = omega (arith, is)
long_not_ok fields.Password is = omega (arith, is)
long_not_ok fields.SystemType is = omega (arith, is)
long_not_ok fields.AddressRange is = omega (arith, is)
long_not_ok fields.InterfaceVersion is = omega (arith, is)
long_not_ok fields.AddrTon is = omega (arith, is)
long_not_ok fields.AddrNpi is = omega (arith, is)
long_not_ok fields.SourceAddrTon is = omega (arith, is)
long_not_ok fields.SourceAddrNpi is = omega (arith, is)
long_not_ok fields.DestAddrTon is = omega (arith, is)
long_not_ok fields.DestAddrNpi is = omega (arith, is)
long_not_ok fields.EsmClass is = omega (arith, is)
long_not_ok fields.ProtocolId is = omega (arith, is)
long_not_ok fields.PriorityFlag is = omega (arith, is)
long_not_ok fields.RegisteredDelivery is = omega (arith, is)
long_not_ok fields.ReplaceIfPresentFlag is = omega (arith, is)
long_not_ok fields.DataCoding is = omega (arith, is)
long_not_ok fields.SmDefaultMsgId is = omega (arith, is)
long_not_ok fields.SmLength is = omega (arith, is)
long_not_ok fields.ShortMessage is = omega (arith, is)
long_not_ok fields.FinalDate is = omega (arith, is)
long_not_ok fields.MessageState is = omega (arith, is)
long_not_ok fields.ErrorCode is = omega (arith, is)
long_not_ok fields.OptionalParameters is = omega (arith, is)

nack_none : (system_id : List ℕ) (sequence : ℕ) (status : Status) (requested : Option Requested) →
    SaysNone system_id (responds sequence (option_map (λ _. Nack status) requested))
nack_none system_id sequence status None = tt
nack_none system_id sequence status (Some requested) = λ body is. cc

told_none : (system_id : List ℕ) (sequence : ℕ) (fault : PduFault) (requested : Option Requested) →
    SaysNone system_id (responds sequence (told_of fault requested))
told_none system_id sequence faults.Length requested = λ body is. cc
told_none system_id sequence faults.Command requested = λ body is. cc
told_none system_id sequence (faults.Cut field) requested = nack_none system_id sequence statuses.InvalidCommandLength requested
told_none system_id sequence faults.Extra requested = nack_none system_id sequence statuses.InvalidCommandLength requested
told_none system_id sequence (faults.LongText field) requested =
    refused_none system_id sequence requested (status_of_long field) (long_not_ok field)
told_none system_id sequence faults.TextLength requested =
    refused_none system_id sequence requested statuses.InvalidMessageLength (λ is. omega (arith, is))
told_none system_id sequence faults.Tlvs requested =
    refused_none system_id sequence requested statuses.InvalidOptionalParameters (λ is. omega (arith, is))
told_none system_id sequence faults.Memory requested = tt

pub fault_none : (system_id : List ℕ) (session : Session) (fault : PduFault) (requested : Option Requested) (sequence : ℕ) →
    SaysNone system_id (on_fault session fault requested sequence).reaction
fault_none system_id session faults.Length requested sequence = length_none system_id session
fault_none system_id session fault requested sequence = by_gone (is_gone session.state) (told_none system_id sequence fault requested)
  where
    by_gone : (gone : Bool) → SaysNone system_id (responds sequence (told_of fault requested)) →
        SaysNone system_id (if gone then reactions.Nothing else responds sequence (told_of fault requested))
    by_gone true told = tt
    by_gone false told = told

-- ---- what the node refuses at once

-- what the node is asked is the request of the PDU
abbrev AsksFor : Pdu → Reaction → Type 0
AsksFor pdu (reactions.Ask requested) = request_in pdu ≡ Some requested
AsksFor pdu reactions.Nothing = Unit {0}
AsksFor pdu (reactions.Respond outgoing) = Unit {0}
AsksFor pdu (reactions.Leave outgoing abandoned) = Unit {0}
AsksFor pdu (reactions.Answered pushed) = Unit {0}

responds_for : (pdu : Pdu) (sequence : ℕ) (response : Option Response) → AsksFor pdu (responds sequence response)
responds_for pdu sequence None = tt
responds_for pdu sequence (Some response) = tt

asks_for : (pdu : Pdu) (session : Session) (requested : Option Requested) → request_in pdu ≡ requested → AsksFor pdu (asks session pdu.sequence requested)
asks_for pdu session None is = tt
asks_for pdu session (Some requested) is = by_room (has_room session.requests)
  where
    by_room : (room : Bool) → AsksFor pdu (if room then reactions.Ask requested else refused pdu.sequence (Some requested) statuses.Throttled)
    by_room true = is
    by_room false = tt

cell_for : (accounts : List Account) (session : Session) (pdu : Pdu) (cell : Cell) → AsksFor pdu (on_cell accounts session pdu cell).reaction
cell_for accounts session pdu (Binds role) = by_bind (bind_in pdu.body)
  where
    by_refusal : (bind : Bind) (refusal : Option Status) → AsksFor pdu (binds_unless refusal session pdu.sequence role bind).reaction
    by_refusal bind None = tt
    by_refusal bind (Some status) = tt

    by_bind : (bind : Option Bind) → AsksFor pdu (binds_by accounts session pdu.sequence role bind).reaction
    by_bind None = tt
    by_bind (Some bind) = by_refusal bind (bind_refusal (account_of accounts bind.system_id) role bind)
cell_for accounts session pdu (Refuses status) = responds_for pdu pdu.sequence _
cell_for accounts session pdu Asks = asks_for pdu session (request_in pdu) refl
cell_for accounts session pdu Unbinds = tt
cell_for accounts session pdu Links = tt
cell_for accounts session pdu NotServed = tt
cell_for accounts session pdu Answers = by_pushed (find (λ (request : Pushed). request.sequence == pdu.sequence) session.pushed)
  where
    by_pushed : (pushed : Option Pushed) → AsksFor pdu (answers_to pushed)
    by_pushed None = tt
    by_pushed (Some pushed) = tt
cell_for accounts session pdu Drops = tt

pub asked_for : (accounts : List Account) (session : Session) (pdu : Pdu) (requested : Requested) →
    (on_pdu accounts session pdu).reaction ≡ reactions.Ask requested → request_in pdu ≡ Some requested
asked_for accounts session pdu requested is =
    subst (AsksFor pdu) is (cell_for accounts session pdu (cell_of (command_in pdu.body) session.state))

cancel_refused : (ask : ℕ → Waited) (busy : Bool) (found : Option ℕ) (status : Status) → asks_about ask (about busy found) ≡ Err status → IsNotOk status
cancel_refused ask busy None status is = subst IsNotOk (the_status statuses.InvalidMessageId status is) (λ same. omega (arith, same))
  where
    the_status : (one other : Status) → ◌≡◌ {A = Result Waited Status} (Err one) (Err other) → one ≡ other
    the_status one other is = cc
cancel_refused ask true (Some id) status is = subst IsNotOk (the_status statuses.Throttled status is) (λ same. omega (arith, same))
  where
    the_status : (one other : Status) → ◌≡◌ {A = Result Waited Status} (Err one) (Err other) → one ≡ other
    the_status one other is = cc
cancel_refused ask false (Some id) status is = absurd cc

refusal_none : (routes : List Route) (body : Body) (requested : Requested) (door : Door) (next : ℕ) (account : List ℕ) (request : Request) →
    request_of routes body ≡ Some request → requested_by (Some (command_in body)) ≡ Some requested → (status : Status) →
    admitted door next account request ≡ Err status → (sequence : ℕ) → IsNoDeletion (refused_with requested sequence (status_code status))
refusal_none routes (bodies.SubmitSm message) requested door next account request brings asks status is sequence =
    subst (λ (r : Requested). IsNoDeletion (refused_with r sequence (status_code status))) (same requested asks) (λ body ok. cc)
  where
    same : (requested : Requested) → Some requests.SubmitSm ≡ Some requested → requests.SubmitSm ≡ requested
    same requested is = cc
refusal_none routes (bodies.QuerySm query) requested door next account request brings asks status is sequence =
    subst (λ (r : Requested). IsNoDeletion (refused_with r sequence (status_code status))) (same requested asks) (λ body ok. cc)
  where
    same : (requested : Requested) → Some requests.QuerySm ≡ Some requested → requests.QuerySm ≡ requested
    same requested is = cc
refusal_none routes (bodies.CancelSm cancel) requested door next account request brings asks status is sequence =
    λ body ok. by_test (bytes_eq cancel.message_id [])
    (subst (λ (r : Request). admitted door next account r ≡ Err status) (sym (same request brings)) is) ok
  where
    same : (request : Request) → Some (asked.Cancel cancel) ≡ Some request → asked.Cancel cancel ≡ request
    same request is = cc

    the_status : (one other : Status) → ◌≡◌ {A = Result Waited Status} (Err one) (Err other) → one ≡ other
    the_status one other is = cc

    by_test : (test : Bool) → (if test then Err statuses.CancelFailed
        else asks_about (λ id. Cancel id account cancel.source.digits cancel.destination.digits) (about door.busy (id_in cancel.message_id))) ≡ Err status →
        IsNotOk status
    by_test true is = subst IsNotOk (the_status statuses.CancelFailed status is) (λ same. omega (arith, same))
    by_test false is = cancel_refused (λ id. Cancel id account cancel.source.digits cancel.destination.digits) door.busy (id_in cancel.message_id) status is
refusal_none routes other requested door next account request brings asks status is sequence = absurd cc

-- the node refuses at once what the desk refuses
refused_by : (node : Node) (judged : Result Waited Status) (status : ℕ) → (step_at node (judged_as judged)).outputs.refused ≡ Some status →
    (why : Status) × (judged ≡ Err why) × (status ≡ status_code why)
refused_by node (Ok request) status is = absurd (by_up node.kept.up is)
  where
    by_up : (up : Bool) →
        (if up then stepped_up node.setup node.kept (Arrival request) else stepped_down node.setup node.kept (Arrival request)).outputs.refused
        ≡ Some status → ⊥
    by_up true is = cc
    by_up false is = cc
refused_by node (Err why) status is = (why, refl, by_up node.kept.up is)
  where
    by_up : (up : Bool) → (if up then stepped_up node.setup node.kept (Refusal (status_code why))
        else stepped_down node.setup node.kept (Refusal (status_code why))).outputs.refused ≡ Some status → status ≡ status_code why
    by_up true is = cc
    by_up false is = absurd cc

pub request_none : (routes : List Route) (pdu : Pdu) (node : Node) (requested : Requested) (door : Door) (next : ℕ) (account : List ℕ) (request : Request) →
    request_of routes pdu.body ≡ Some request → request_in pdu ≡ Some requested → (status sequence : ℕ) →
    (step_at node (judged_as (admitted door next account request))).outputs.refused ≡ Some status → IsNoDeletion (refused_with requested sequence status)
request_none routes pdu node requested door next account request brings asks status sequence is =
    let by = refused_by node (admitted door next account request) status is in
    subst (λ (s : ℕ). IsNoDeletion (refused_with requested sequence s)) (sym by.2)
    (refusal_none routes pdu.body requested door next account request brings asks by.0 by.1 sequence)
