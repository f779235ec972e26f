-- Questions that come after a final state of their message, or ESME_ROK to its submit_sm, was printed.
use Rattle.std.specs.Prelude.{◌≡◌, ◌⊎◌, ℕ, ◌≤◌, List, Some, None}
use Rattle.std.specs.Fmt.{decimal}
use Rattle.mc_model.specs.synod.Lists.{In}
use Rattle.mc_model.specs.node.Actor.{Cancel, Query, Request, Submit}
use Rattle.node_model.specs.Kept.{Held}
use Rattle.node_model.specs.Requests.{ticket_of}
use Rattle.pdu_tables.specs.StatusCodes.{status_code}
use Rattle.pdu_tables.specs.declared.status.Status.TheVariants as statuses
use Rattle.pdu_bodies.specs.declared.pdu.Body.TheVariants.{SubmitSmResp}
use Rattle.pdu_bodies.specs.declared.pdu.Pdu.{Pdu}
use Rattle.sessions.specs.Session.{Session}
use Rattle.sessions.specs.declared.request.OpenRequest.{OpenRequest}
use Rattle.script_text.specs.Laws.{StatesFate, TellsState}
use Rattle.script_text.specs.Prints.{Late, Print}
use Rattle.script_text.specs.Runner.{Runner}
use Rattle.script_text.specs.Settings.{Settings}
use Rattle.script_text.specs.Prints.{At, WorldPrint}
use Rattle.script_text.specs.Script.{Joins, Stage}
use Rattle.script_text.specs.World.{NodeInput, World, runner_at}

-- In a world a request waits on a session of a node, with this sequence_number (SMPP 3.4, 2.9 and 5.1.4).
pub record IsAskedAt (world : World) (node number sequence : ℕ) : Type 0 where
  pub runner : Runner
  pub there : runner_at world node ≡ Some runner
  pub session : Session
  pub connected : In (number, session) runner.sessions
  pub request : OpenRequest
  pub waits : In request session.requests
  pub sequence_is : request.sequence ≡ sequence

-- a node holds this request under a ticket (own)
pub record HoldsUnder (held : List Held) (ticket : ℕ) (request : Request) : Type 0 where
  pub one : Held
  pub among : In one held
  pub ticket_is : ticket_of one ≡ ticket
  pub request_is : one.waiting.request ≡ request

-- A print answers such a request that had come before: in this world it waits on the session on which the print goes out, with the sequence_number
-- of the print (SMPP 3.4, 2.9 and 5.1.4), and its node holds it under the same ticket.
pub record AnswersWhatWaited (Asks : Request → Type 0) (world : World) (node : ℕ) (print : Print) : Type 0 where
  pub session : ℕ
  pub id : ℕ
  pub pdu : Pdu
  pub printed : print ≡ Late session id pdu
  pub asked : IsAskedAt world node session pdu.sequence
  pub request : Request
  pub asks : Asks request
  pub holds : HoldsUnder asked.runner.node.kept.held asked.request.ticket request

-- a query_sm of the message of a message_id (SMPP 3.4, 4.8.1)
abbrev pub AsksState : List ℕ → Request → Type 0
AsksState message_id (Query id account source) = decimal id ≡ message_id
AsksState message_id (Submit id message) = ⊥
AsksState message_id (Cancel id account source destination) = ⊥

-- a query_sm or a cancel_sm of the message of an id (SMPP 3.4, 4.8.1 and 4.9.1)
abbrev pub AsksAbout : ℕ → Request → Type 0
AsksAbout id (Query other account source) = other ≡ id
AsksAbout id (Cancel other account source destination) = other ≡ id
AsksAbout id (Submit other message) = ⊥

-- After lines have printed a final state of a message, at whatever node, each query_sm_resp with ESME_ROK for the message (SMPP 3.4, 4.8.2) tells
-- that state, unless it answers a query_sm of the message that had come before and waited.
abbrev pub LaterQueriesTellTheFate : Type 0
LaterQueriesTellTheFate =
    (settings : Settings) (before later : List (List ℕ)) (came coming : List NodeInput) (prints others : List WorldPrint) (world : World) (last : Stage)
    (here there : ℕ) (first query : Print) (message_id : List ℕ) (one other : ℕ)
    → Joins settings None before came prints (Some world)
    → Joins settings (Some world) later coming others last
    → 1 ≤ there
    → In (At here first) prints
    → In (At there query) others
    → StatesFate first message_id one
    → TellsState query message_id other
    → (other ≡ one) ⊎ AnswersWhatWaited (AsksState message_id) world there query

-- ESME_ROK to a submit_sm tells the id of its message (SMPP 3.4, 4.4.2).
pub record TellsAcceptance (print : Print) (id : ℕ) : Type 0 where
  pub session : ℕ
  pub pdu : Pdu
  pub printed : print ≡ Late session id pdu
  pub status : pdu.status ≡ status_code statuses.Ok
  pub body : pdu.body ≡ SubmitSmResp (Some (decimal id))

-- A request for the message of an id waited, and is refused with ESME_RINVMSGID (SMPP 3.4, 5.1.3).
pub record TellsUnknown (print : Print) (id : ℕ) : Type 0 where
  pub session : ℕ
  pub pdu : Pdu
  pub printed : print ≡ Late session id pdu
  pub status : pdu.status ≡ status_code statuses.InvalidMessageId

-- After lines have printed ESME_ROK to the submit_sm of a message, at whatever node, no request for the message that waits is refused as one for a
-- message that there is not, unless it is a query_sm or a cancel_sm of it that had come before.
abbrev pub LaterRequestsAreOfKnownMessages : Type 0
LaterRequestsAreOfKnownMessages =
    (settings : Settings) (before later : List (List ℕ)) (came coming : List NodeInput) (prints others : List WorldPrint) (world : World) (last : Stage)
    (here there : ℕ) (first answer : Print) (id : ℕ)
    → Joins settings None before came prints (Some world)
    → Joins settings (Some world) later coming others last
    → 1 ≤ there
    → In (At here first) prints
    → In (At there answer) others
    → TellsAcceptance first id
    → TellsUnknown answer id
    → AnswersWhatWaited (AsksAbout id) world there answer
