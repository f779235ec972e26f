-- What the octets of one frame are to the service: what its session makes of them, and what of that is for the node (own).
use Rattle.std.specs.Prelude.{◌≡◌, ℕ, true, List, Option, Some, None, Result, Ok, Err}
use Rattle.mc_model.specs.node.Outcome.{Outcome}
use Rattle.accounts.specs.Routes.{target_of}
use Rattle.accounts.specs.declared.route.Route.{Route}
use Rattle.pdu_tables.specs.CommandCodes.{command_of}
use Rattle.pdu_codec.specs.Grammar.{word_at}
use Rattle.pdu_codec.specs.Pdu.{read_pdu}
use Rattle.pdu_fields.specs.declared.fault.PduFault.{PduFault}
use Rattle.pdu_bodies.specs.declared.pdu.Body.{Body}
use Rattle.pdu_bodies.specs.declared.pdu.Body.TheVariants as bodies
use Rattle.pdu_bodies.specs.declared.pdu.Pdu.{Pdu}
use Rattle.delivery.specs.Outcomes.{told_in}
use Rattle.sessions.specs.Session.{Session}
use Rattle.sessions.specs.Responses.{requested_by}
use Rattle.sessions.specs.States.{is_gone}
use Rattle.sessions.specs.Steps.{Done, on_fault, on_pdu, on_wrong_length}
use Rattle.sessions.specs.declared.reaction.Reaction.{Reaction}
use Rattle.sessions.specs.declared.reaction.Reaction.TheVariants.{Respond, Leave, Ask, Answered}
use Rattle.sessions.specs.declared.requested.Requested.{Requested}
use Rattle.desk.specs.declared.request.Request.{Request}
use Rattle.desk.specs.declared.request.Request.TheVariants as requests
use Rattle.esme_service.specs.Settings.{Settings}
use Rattle.esme_service.specs.Pushes.{session_at}
use Rattle.esme_service.specs.Sessions.{kept_at}
use Rattle.esme_service.specs.declared.heard.Heard.{Heard}
use Rattle.esme_service.specs.declared.heard.Heard.TheVariants as heards

-- the request for the node that a body is, if it is one: a submit_sm has the account that the routes give, if they give one
abbrev pub request_of : List Route → Body → Option Request
request_of routes (bodies.SubmitSm message) = Some (requests.Submit message (target_of routes message.destination.digits))
request_of routes (bodies.QuerySm query) = Some (requests.Ask query)
request_of routes (bodies.CancelSm cancel) = Some (requests.Cancel cancel)
request_of routes other = None

-- What a PDU is to the node: its sequence_number, the request that its body is, if it is one, and what it tells of the deliver_sm that has
-- a sequence_number.
pub record Came : Type 0 where
  pub sequence : ℕ
  pub request : Option Request
  pub outcome : ℕ → Option Outcome

abbrev pub came_by : Settings → Pdu → Came
came_by settings pdu = record {
  sequence = pdu.sequence;
  request = request_of settings.routes pdu.body;
  outcome = λ sequence. told_in sequence pdu;
}

abbrev pub nothing_came : Came
nothing_came = record { sequence = 0; request = None; outcome = λ sequence. None }

-- ---- at the session

-- what octets that are read to be this, a PDU or a fault, are to their session
abbrev pub done_by : Settings → Session → List ℕ → Result Pdu PduFault → Done
done_by settings session octets (Ok pdu) = on_pdu settings.accounts session pdu
done_by settings session octets (Err fault) = on_fault session fault (requested_by (command_of (word_at 4 octets))) (word_at 12 octets)

-- ---- for the node

-- what goes out by a reaction that neither asks the node nor answers it, and what is given up
abbrev pub told_by : Reaction → Heard
told_by (Respond outgoing) = heards.Response outgoing
told_by (Leave outgoing abandoned) = heards.Gone outgoing abandoned
told_by other = heards.Nothing

-- a request goes to the node, if there is an account and a request
abbrev pub asked_by : Requested → ℕ → Option (List ℕ) → Option Request → Heard
asked_by requested sequence None request = heards.Nothing
asked_by requested sequence (Some account) None = heards.Nothing
asked_by requested sequence (Some account) (Some request) = heards.Request (record { requested = requested; sequence = sequence }) request

-- what comes of a PDU at the session that it leaves
abbrev pub heard_of : Settings → Session → Pdu → Reaction → Heard
heard_of settings session pdu (Ask requested) = asked_by requested pdu.sequence session.account (request_of settings.routes pdu.body)
heard_of settings session pdu (Answered pushed) = heards.Answer pushed pdu
heard_of settings session pdu other = told_by other

-- and of octets that are read to be this
abbrev pub heard_in : Settings → Result Pdu PduFault → Done → Heard
heard_in settings (Ok pdu) done = heard_of settings done.next pdu done.reaction
heard_in settings (Err fault) done = told_by done.reaction

-- ---- at the service

-- the sessions after a frame, the session that it left, if there was one, and what came of it
pub record Heeds : Type 0 where
  pub sessions : List (ℕ × Session)
  pub left : Option Session
  pub heard : Heard

abbrev pub heeds_nothing : List (ℕ × Session) → Heeds
heeds_nothing connected = record { sessions = connected; left = None; heard = heards.Nothing }

abbrev pub heeds_by : List (ℕ × Session) → ℕ → Done → Heard → Heeds
heeds_by connected number done heard = record { sessions = kept_at connected number done.next; left = Some done.next; heard = heard }

abbrev pub heeds_if : Settings → List (ℕ × Session) → ℕ → List ℕ → Option Session → Heeds
heeds_if settings connected number octets None = heeds_nothing connected
heeds_if settings connected number octets (Some session) =
    heeds_by connected number (done_by settings session octets (read_pdu octets))
    (heard_in settings (read_pdu octets) (done_by settings session octets (read_pdu octets)))

-- the octets of one frame come on the session of a number: nothing comes of them if it is not connected
abbrev pub heeds : Settings → List (ℕ × Session) → ℕ → List ℕ → Heeds
heeds settings connected number octets = heeds_if settings connected number octets (session_at connected number)

abbrev pub ends_if : List (ℕ × Session) → ℕ → Option Session → Heeds
ends_if connected number None = heeds_nothing connected
ends_if connected number (Some session) = heeds_by connected number (on_wrong_length session) (told_by (on_wrong_length session).reaction)

-- octets of a wrong length come there
abbrev pub ends_at : List (ℕ × Session) → ℕ → Heeds
ends_at connected number = ends_if connected number (session_at connected number)

-- a session that is gone has no account, and is connected no longer
abbrev pub GoesIf : List (ℕ × Session) → ℕ → Option Session → Type 0
GoesIf connected number None = Unit {0}
GoesIf connected number (Some session) = is_gone session.state ≡ true → (session.account ≡ None) × (session_at connected number ≡ None)

abbrev pub Goes : ℕ → Heeds → Type 0
Goes number heeds = GoesIf heeds.sessions number heeds.left
