-- What comes of each event at a session, and what session it leaves.
use Rattle.std.specs.Prelude.{◌≡◌, ℕ, Bool, ◌==◌, ◌&&◌, not, List, [], ◌∷◌, ◌++◌, find, filter, Option, Some, None, Result, Ok, Err, if◌then◌else◌}
use Rattle.accounts.specs.declared.account.Account.{Account}
use Rattle.accounts.specs.declared.role.Role.{Role}
use Rattle.accounts.specs.Accounts.{account_of, bind_refusal}
use Rattle.pdu_tables.specs.declared.status.Status.{Status}
use Rattle.pdu_tables.specs.declared.status.Status.TheVariants as statuses
use Rattle.pdu_fields.specs.declared.fault.PduFault.{PduFault}
use Rattle.pdu_fields.specs.declared.fault.PduFault.TheVariants as faults
use Rattle.pdu_bodies.specs.declared.pdu.Bind.{Bind}
use Rattle.pdu_bodies.specs.declared.pdu.Body.{Body}
use Rattle.pdu_bodies.specs.declared.pdu.Body.TheVariants as bodies
use Rattle.pdu_bodies.specs.declared.pdu.Pdu.{Pdu}
use Rattle.pdu_codec.specs.Bodies.{command_in}
use Rattle.sessions.specs.declared.pushed.Delivery.{Delivery}
use Rattle.sessions.specs.declared.pushed.Pushed.{Pushed}
use Rattle.sessions.specs.declared.pushed.PushRefusal.{PushRefusal}
use Rattle.sessions.specs.declared.pushed.PushRefusal.TheVariants.{Window, NotReceiving}
use Rattle.sessions.specs.declared.reaction.Reaction.{Reaction}
use Rattle.sessions.specs.declared.reaction.Reaction.TheVariants.{Nothing, Respond, Leave, Ask, Answered}
use Rattle.sessions.specs.declared.request.OpenRequest.{OpenRequest}
use Rattle.sessions.specs.declared.requested.Requested.{Requested}
use Rattle.sessions.specs.declared.response.Response.{Response}
use Rattle.sessions.specs.declared.response.Response.TheVariants.{Nack, Bound, Unbound, Linked}
use Rattle.sessions.specs.declared.state.SessionState.TheVariants as states
use Rattle.sessions.specs.States.{bound_as, is_bound, is_fresh, is_gone, may_ask, may_receive}
use Rattle.sessions.specs.Responses.{bind_request, requested_by}
use Rattle.sessions.specs.Faults.{refused_with, told_of}
use Rattle.sessions.specs.Windows.{has_room, is_overdue, without_first}
use Rattle.sessions.specs.Session.{Session, sequence_after}
use Rattle.sessions.specs.Table.{Cell, Binds, Refuses, Asks, Unbinds, Links, NotServed, Answers, Drops, cell_of}

-- a session that is connected
abbrev pub opened : Session
opened = record { state = states.Fresh; account = None; interface_version = 0; requests = []; pushed = []; next_sequence = 1 }

-- the session after an event, and what comes of it
pub record Done : Type 0 where
  pub next : Session
  pub reaction : Reaction

-- The session reacted so: this one is left, and this comes of it.
pub record Reacts (done : Done) (left : Session) (out : Reaction) : Type 0 where
  pub next : left ≡ done.next
  pub reaction : out ≡ done.reaction

-- nothing changes
abbrev pub stays : Session → Reaction → Done
stays session reaction = record { next = session; reaction = reaction }

abbrev pub responds : ℕ → Option Response → Reaction
responds sequence None = Nothing
responds sequence (Some response) = Respond (record { sequence = sequence; response = response })

-- the request is refused with this status
abbrev pub refused : ℕ → Option Requested → Status → Reaction
refused sequence requested status = responds sequence (refused_with status requested)

-- The session is gone: what the ESME asked is forgotten, and no answer to what was pushed will be taken.
abbrev pub gone : Session → Session
gone session = record session { state = states.Gone; account = None; requests = []; pushed = [] }

-- this is sent, and the session is gone; what was pushed is given up
abbrev pub leaves : Session → ℕ → Response → Done
leaves session sequence response = record {
  next = gone session;
  reaction = Leave (record { sequence = sequence; response = response }) session.pushed;
}

-- ---- a PDU

-- what a bind in the role leaves that is not refused
abbrev pub bound : Session → Role → Bind → Session
bound session role bind = record session { state = bound_as role; account = Some bind.system_id; interface_version = bind.interface_version }

-- a bind that this refuses, if anything does
abbrev pub binds_unless : Option Status → Session → ℕ → Role → Bind → Done
binds_unless None session sequence role bind = record {
  next = bound session role bind;
  reaction = responds sequence (Some (Bound role bind.interface_version));
}
binds_unless (Some status) session sequence role bind = stays session (refused sequence (Some (bind_request role)) status)

-- a bind on a session that is not bound
abbrev pub binds : List Account → Session → ℕ → Role → Bind → Done
binds accounts session sequence role bind = binds_unless (bind_refusal (account_of accounts bind.system_id) role bind) session sequence role bind

-- a request for the node: it is refused if ten wait there
abbrev pub asks : Session → ℕ → Option Requested → Reaction
asks session sequence None = Nothing
asks session sequence (Some requested) =
    if has_room session.requests then Ask requested else refused sequence (Some requested) statuses.Throttled

-- the answer to a pushed request, if there is such a one
abbrev pub answers_to : Option Pushed → Reaction
answers_to None = Nothing
answers_to (Some pushed) = Answered pushed

-- an answer with this sequence_number: its request leaves the window
abbrev pub on_answer : Session → ℕ → Done
on_answer session sequence = record {
  next = record session { pushed = without_first (λ request. request.sequence == sequence) session.pushed };
  reaction = answers_to (find (λ request. request.sequence == sequence) session.pushed);
}

-- the bind in a body, if it is one
abbrev pub bind_in : Body → Option Bind
bind_in (bodies.BindReceiver bind) = Some bind
bind_in (bodies.BindTransmitter bind) = Some bind
bind_in (bodies.BindTransceiver bind) = Some bind
bind_in other = None

-- the request that a PDU is, if it is one
abbrev pub request_in : Pdu → Option Requested
request_in pdu = requested_by (Some (command_in pdu.body))

abbrev pub binds_by : List Account → Session → ℕ → Role → Option Bind → Done
binds_by accounts session sequence role None = stays session Nothing
binds_by accounts session sequence role (Some bind) = binds accounts session sequence role bind

-- what a cell of the session table says of a PDU
abbrev pub on_cell : List Account → Session → Pdu → Cell → Done
on_cell accounts session pdu (Binds role) = binds_by accounts session pdu.sequence role (bind_in pdu.body)
on_cell accounts session pdu (Refuses status) = stays session (refused pdu.sequence (request_in pdu) status)
on_cell accounts session pdu Asks = stays session (asks session pdu.sequence (request_in pdu))
on_cell accounts session pdu Unbinds = leaves session pdu.sequence Unbound
on_cell accounts session pdu Links = stays session (responds pdu.sequence (Some Linked))
on_cell accounts session pdu NotServed = stays session (responds pdu.sequence (Some (Nack statuses.InvalidCommandId)))
on_cell accounts session pdu Answers = on_answer session pdu.sequence
on_cell accounts session pdu Drops = stays session Nothing

-- a PDU came
abbrev pub on_pdu : List Account → Session → Pdu → Done
on_pdu accounts session pdu = on_cell accounts session pdu (cell_of (command_in pdu.body) session.state)

-- the PDU is a bind, and binds the session
abbrev pub is_bound_by : List Account → Session → Pdu → Bool
is_bound_by accounts session pdu = is_fresh session.state && is_bound (on_pdu accounts session pdu).next.state

-- ---- octets that are no PDU

-- Their length is wrong: where the next PDU begins can't be known, nor what sequence_number the answer is to have.
abbrev pub on_wrong_length : Session → Done
on_wrong_length session = if is_gone session.state then stays session Nothing else leaves session 0 (Nack statuses.InvalidCommandLength)

-- they have this fault, and the header of this request, or of none
abbrev pub on_fault : Session → PduFault → Option Requested → ℕ → Done
on_fault session faults.Length requested sequence = on_wrong_length session
on_fault session fault requested sequence = stays session (if is_gone session.state then Nothing else responds sequence (told_of fault requested))

-- ---- the node

-- the ESME may ask, and the window has room
abbrev pub can_wait : Session → Bool
can_wait session = may_ask session.state && has_room session.requests

-- the node lets a request wait
abbrev pub on_wait : Session → OpenRequest → Session
on_wait session request = if can_wait session then record session { requests = session.requests ++ request ∷ [] } else session

-- the node answers the request of a ticket: it leaves the window
abbrev pub on_reply : Session → ℕ → Session
on_reply session ticket = record session { requests = without_first (λ request. request.ticket == ticket) session.requests }

-- ---- requests of the centre

abbrev pub push_refusal : Session → Option PushRefusal
push_refusal session =
    if not (may_receive session.state) then Some NotReceiving
    else if has_room session.pushed then None
    else Some Window

-- the sequence_number of what is pushed, unless that is refused
abbrev pub sequence_unless : Option PushRefusal → ℕ → Result ℕ PushRefusal
sequence_unless None sequence = Ok sequence
sequence_unless (Some refusal) sequence = Err refusal

abbrev pub push_result : Session → Result ℕ PushRefusal
push_result session = sequence_unless (push_refusal session) session.next_sequence

abbrev pub pushed_unless : Option PushRefusal → Session → ℕ → Delivery → Session
pushed_unless None session now delivery = record session {
  pushed = session.pushed ++ record { sequence = session.next_sequence; since = now; delivery = delivery } ∷ [];
  next_sequence = sequence_after session.next_sequence;
}
pushed_unless (Some refusal) session now delivery = session

-- a deliver_sm is pushed
abbrev pub on_push : Session → ℕ → Delivery → Session
on_push session now delivery = pushed_unless (push_refusal session) session now delivery

-- a moment has come: what waits too long leaves the window
abbrev pub on_tick : Session → ℕ → Session
on_tick session now = record session { pushed = filter (λ request. not (is_overdue now request)) session.pushed }
