-- What the lines of a script do, by one node and the sessions with its ESMEs.
use Rattle.std.specs.Prelude.{ℕ, nat_lt, List, [], ◌∷◌, ◌++◌, map, is_none, Option, Some, None, Result, Ok, Err, if◌then◌else◌}
use Rattle.std.specs.Ordering.{nat_cmp}
use Rattle.std.specs.Map.{lookup, remove_entry}
use Rattle.std.specs.BTreeMap.{is_at, insert_entry}
use Rattle.mc_model.specs.message.Submission.{Submission}
use Rattle.mc_model.specs.synod.Packet.{Packet, Slot}
use Rattle.mc_model.specs.node.Grant.{GrantRefusal, refusal_number}
use Rattle.mc_model.specs.node.Input.{Delivery, Grant, Input, Restart}
use Rattle.mc_model.specs.node.Outputs.{Receipt, Reply}
use Rattle.node_model.specs.Attempts.{grant_refusal}
use Rattle.node_model.specs.Granted.{known_slot}
use Rattle.node_model.specs.Outputs.{Stepped}
use Rattle.pdu_tables.specs.CommandCodes.{command_of}
use Rattle.pdu_codec.specs.Grammar.{word_at}
use Rattle.pdu_codec.specs.Pdu.{read_pdu}
use Rattle.pdu_fields.specs.declared.fault.PduFault.{PduFault}
use Rattle.pdu_bodies.specs.declared.pdu.Pdu.{Pdu}
use Rattle.pdu_frames.specs.Frames.{Cut, cut, begins_wrong}
use Rattle.sessions.specs.Session.{Session}
use Rattle.sessions.specs.Responses.{pdu_of, requested_by}
use Rattle.sessions.specs.States.{is_gone}
use Rattle.sessions.specs.Steps.{Done, on_fault, on_pdu, on_wrong_length}
use Rattle.sessions.specs.declared.reaction.Reaction.{Reaction}
use Rattle.sessions.specs.declared.pushed.Delivery.TheVariants.{Attempt}
use Rattle.sessions.specs.declared.reaction.Reaction.TheVariants.{Respond, Leave, Ask, Answered}
use Rattle.sessions.specs.declared.requested.Requested.{Requested}
use Rattle.desk.specs.declared.request.Request.{Request}
use Rattle.script_text.specs.Settings.{Settings}
use Rattle.script_text.specs.Left.{Left, followed_by, in_front, rests}
use Rattle.script_text.specs.Node.{Node, awaiting, request_at, step_at, tick_at, with_step}
use Rattle.script_text.specs.Responses.{refused_with, reply_pdu}
use Rattle.script_text.specs.Pushes.{accounts_up, delivery_on, is_long, overdue_in, session_at, target_in, timely_in, with_push}
use Rattle.script_text.specs.Attempts.{Went, all_given_up, concluded, delivered_so, submission_at, unanswered}
use Rattle.script_text.specs.Receipts.{Mail, Posted, all_posted, posted_for_all, posted_for_any}
use Rattle.script_text.specs.Prints.{Print, AtOnce, Late, Delivers, Gone, Declined, Ungranted}
pub use Rattle.esme_service.specs.Hearing.{request_of, Came, came_by, nothing_came}
pub use Rattle.esme_service.specs.Replies.{Owned, found_at, owner_of, replied_at, replied}
pub use Rattle.esme_service.specs.Sessions.{session_or_opened, session_in, put_at, in_window}

-- The node; the sessions that are connected, by their numbers; of each the octets of the PDU that has not come whole; and the receipts that
-- wait for a session, the oldest first.
pub record Runner : Type 0 where
  pub node : Node
  pub sessions : List (ℕ × Session)
  pub streams : List (ℕ × List ℕ)
  pub waiting : List Receipt

-- the packets that its node sent are taken from it
abbrev pub given_out : Runner → Runner
given_out runner = record runner { node = awaiting runner.node [] }

-- no session is connected yet
abbrev pub runner_opened : Node → Runner
runner_opened node = record { node = node; sessions = []; streams = []; waiting = [] }

-- ---- a PDU on a session

-- a node, and a session that is served at it
pub record Serving : Type 0 where
  pub node : Node
  pub session : Session

-- what serving a session leaves
abbrev pub Served : Type 0
Served = Left Serving Input Print

-- the node is not asked, and this is printed
abbrev pub unasked : Node → Session → List Print → Served
unasked node session prints = record { next = record { node = node; session = session }; inputs = []; prints = prints }

-- the node went on by what came of attempts, and this is printed
abbrev pub gone_on : Session → Went → List Print → Served
gone_on session went prints = record { next = record { node = went.next; session = session }; inputs = went.inputs; prints = prints }

-- the command_status of a request that does not wait goes out
abbrev pub refusal_prints : ℕ → Requested → ℕ → Option ℕ → List Print
refusal_prints number requested sequence None = []
refusal_prints number requested sequence (Some status) = AtOnce number (refused_with requested sequence status) ∷ []

abbrev pub begun_by : ℕ → Node → Session → Requested → ℕ → Input → Stepped → Served
begun_by number node session requested sequence input step = record {
  next = record { node = with_step node step; session = in_window session requested sequence step.outputs.ticket };
  inputs = input ∷ [];
  prints = refusal_prints number requested sequence step.outputs.refused;
}

-- what comes to the node by a request: nothing that waited is answered in the same step
abbrev pub on_input : ℕ → Node → Session → Requested → ℕ → Input → Served
on_input number node session requested sequence input = begun_by number node session requested sequence input (step_at node input)

-- a request of the account goes to the node, if there is an account and a request
abbrev pub on_request : ℕ → Node → Session → Requested → ℕ → Option (List ℕ) → Option Request → Served
on_request number node session requested sequence None request = unasked node session []
on_request number node session requested sequence (Some account) None = unasked node session []
on_request number node session requested sequence (Some account) (Some request) =
    on_input number node session requested sequence (request_at node account request)

-- what of a reaction goes out
abbrev pub reaction_prints : Settings → ℕ → Reaction → List Print
reaction_prints settings number (Respond outgoing) = AtOnce number (pdu_of settings.system_id outgoing) ∷ []
reaction_prints settings number (Leave outgoing abandoned) = AtOnce number (pdu_of settings.system_id outgoing) ∷ Gone number ∷ []
reaction_prints settings number other = []

-- What comes of a PDU at its session goes to the node, or out. The ESME's answer tells what came of an attempt; a session that goes gives
-- up those that were open there.
abbrev pub on_reaction : Settings → ℕ → Node → Came → Session → Reaction → Served
on_reaction settings number node came session (Ask requested) =
    on_request number node session requested came.sequence session.account came.request
on_reaction settings number node came session (Answered pushed) =
    gone_on session (delivered_so node pushed.delivery (came.outcome pushed.sequence)) []
on_reaction settings number node came session (Leave outgoing abandoned) =
    gone_on session (all_given_up node abandoned) (reaction_prints settings number (Leave outgoing abandoned))
on_reaction settings number node came session other = unasked node session (reaction_prints settings number other)

abbrev pub on_done : Settings → ℕ → Node → Came → Done → Served
on_done settings number node came done = on_reaction settings number node came done.next done.reaction

-- what octets are read to be, a PDU or a fault, by their session
abbrev pub on_read : Settings → ℕ → Node → Session → List ℕ → Result Pdu PduFault → Served
on_read settings number node session octets (Ok pdu) =
    on_done settings number node (came_by settings pdu) (on_pdu settings.accounts session pdu)
on_read settings number node session octets (Err fault) =
    on_done settings number node nothing_came (on_fault session fault (requested_by (command_of (word_at 4 octets))) (word_at 12 octets))

-- ---- what a line does

-- what a runner did
abbrev pub Acted : Type 0
Acted = Left Runner Input Print

-- ---- receipts

abbrev pub mail_of : Runner → Mail
mail_of runner = record { sessions = runner.sessions; waiting = runner.waiting }

abbrev pub with_posted : Runner → Posted → Acted
with_posted runner posted = record {
  next = record runner { sessions = posted.next.sessions; waiting = posted.next.waiting };
  inputs = [];
  prints = posted.prints;
}

-- what waits for an account goes out
abbrev pub posts_for : Runner → Option (List ℕ) → Acted
posts_for runner account = with_posted runner (posted_for_any runner.node.kept.clock (mail_of runner) account)

-- and what waits for each account of which a session may receive
abbrev pub posts_for_all : Runner → Acted
posts_for_all runner = with_posted runner (posted_for_all runner.node.kept.clock (mail_of runner) (accounts_up runner.sessions))

-- receipts are due
abbrev pub posts : Runner → List Receipt → Acted
posts runner receipts = with_posted runner (all_posted runner.node.kept.clock (mail_of runner) receipts)

-- ---- the octets of a session

abbrev pub or_nothing : Option (List ℕ) → List ℕ
or_nothing None = []
or_nothing (Some octets) = octets

-- the octets of its PDU that has not come whole
abbrev pub held_in : List (ℕ × List ℕ) → ℕ → List ℕ
held_in streams number = or_nothing (lookup (is_at (nat_cmp number)) streams)

-- one that is gone is connected no longer: what comes next under its number begins another
abbrev pub with_session : Runner → ℕ → Session → Runner
with_session runner number session =
    if is_gone session.state then record runner { sessions = remove_entry (is_at (nat_cmp number)) runner.sessions }
    else record runner { sessions = put_at runner.sessions number session }

abbrev pub served_at : Runner → ℕ → Served → Acted
served_at runner number served = record {
  next = with_session (record runner { node = served.next.node }) number served.next.session;
  inputs = served.inputs;
  prints = served.prints;
}

-- A session was served, and what waits for its account goes out.
abbrev pub serves : Runner → ℕ → Served → Acted
serves runner number served =
    followed_by (served_at runner number served) (posts_for (served_at runner number served).next served.next.session.account)

-- the octets of one frame come on a session
unfoldable pub on_frame : Settings → ℕ → Runner → List ℕ → Acted
on_frame settings number runner octets =
    serves runner number (on_read settings number runner.node (session_in runner.sessions number) octets (read_pdu octets))

-- these octets wait for more
abbrev pub holds : Runner → ℕ → List ℕ → Acted
holds runner number held = rests (record runner { streams = insert_entry nat_cmp runner.streams number held })

-- a wrong length ends the session
abbrev pub ends : Settings → ℕ → Runner → Acted
ends settings number runner = serves runner number (on_done settings number runner.node nothing_came (on_wrong_length (session_in runner.sessions number)))

-- Behind the last whole frame either a wrong length begins, or octets that wait for more.
abbrev pub on_rest : Settings → ℕ → Runner → List ℕ → Acted
on_rest settings number runner rest = if begins_wrong rest then ends settings number runner else holds runner number rest

-- Each frame in its turn, and then what stands behind them. Where a frame ends the session, the octets behind it are dropped.
unfoldable pub on_frames : Settings → ℕ → Runner → List (List ℕ) → List ℕ → Acted
on_frames settings number runner [] rest = on_rest settings number runner rest
on_frames settings number runner (frame ∷ frames) rest =
    if is_none (session_at (on_frame settings number runner frame).next.sessions number) then on_frame settings number runner frame
    else followed_by (on_frame settings number runner frame) (on_frames settings number (on_frame settings number runner frame).next frames rest)

abbrev pub on_cut : Settings → ℕ → Runner → Cut → Acted
on_cut settings number runner stream = on_frames settings number runner stream.frames stream.rest

-- the session is connected, and its stream is at hand
abbrev pub opened_at : Runner → ℕ → Runner
opened_at runner number = record runner {
  sessions = put_at runner.sessions number (session_in runner.sessions number);
  streams = remove_entry (is_at (nat_cmp number)) runner.streams;
}

-- the next octets of a session's stream
unfoldable pub on_octets : Settings → Runner → ℕ → List ℕ → Acted
on_octets settings runner number octets = on_cut settings number (opened_at runner number) (cut (held_in runner.streams number ++ octets))

-- ---- replies

abbrev pub reply_prints : Reply → Option Owned → List Print
reply_prints reply None = []
reply_prints reply (Some owned) = Late owned.number reply.id (reply_pdu owned.request.requested owned.request.sequence reply.id reply.answer) ∷ []

-- the sessions after replies, and what is printed: nothing comes to the node
abbrev pub Told : Type 0
Told = Left (List (ℕ × Session)) Input Print

-- reply after reply goes out on the session that holds its ticket; one whose session is gone is dropped
unfoldable pub told : List (ℕ × Session) → List Reply → Told
told connected [] = rests connected
told connected (reply ∷ replies) =
    in_front (reply_prints reply (owner_of connected reply.ticket)) (told (replied connected reply.ticket (owner_of connected reply.ticket)) replies)

abbrev pub answered : Runner → Node → Input → Told → Acted
answered runner node input told = record {
  next = record runner { node = node; sessions = told.next };
  inputs = input ∷ [];
  prints = told.prints;
}

-- a step of the node, whose replies go out
abbrev pub answered_by : Runner → Node → Input → Stepped → Acted
answered_by runner node input step = answered runner (with_step node step) input (told runner.sessions step.outputs.replies)

-- ---- a moment

-- the node is told of a moment, and of the accounts that have a session that may receive
abbrev pub ticks_by : Runner → Input → Acted
ticks_by runner tick = answered_by runner runner.node tick (step_at runner.node tick)

abbrev pub ticked : Runner → ℕ → Acted
ticked runner moment = ticks_by runner (tick_at moment (accounts_up runner.sessions))

-- what waits too long on its session is given up
abbrev pub gives_up_by : Runner → ℕ → Went → Acted
gives_up_by runner now went = record {
  next = record runner { node = went.next; sessions = timely_in runner.sessions now };
  inputs = went.inputs;
  prints = [];
}

abbrev pub gives_up : Runner → ℕ → Acted
gives_up runner now = gives_up_by runner now (all_given_up runner.node (overdue_in runner.sessions now))

-- and then what waits for the room that it leaves goes out
abbrev pub makes_room : Runner → Acted
makes_room runner = followed_by (gives_up runner runner.node.kept.clock) (posts_for_all (gives_up runner runner.node.kept.clock).next)

-- a moment has come
abbrev pub on_tick : Runner → ℕ → Acted
on_tick runner moment = followed_by (ticked runner moment) (makes_room (ticked runner moment).next)

-- ---- an attempt is asked for

-- the deliver_sm goes out, and waits for its answer
abbrev pub pushes : Runner → Slot → Submission → ℕ → Option Session → Acted
pushes runner slot taken number None = rests runner
pushes runner slot taken number (Some session) = record {
  next = record runner { sessions = with_push runner.sessions number runner.node.kept.clock (Attempt slot) };
  inputs = [];
  prints = Delivers number (delivery_on session taken) ∷ [];
}

-- nobody is there whom it could go to
abbrev pub fails_by : Runner → Went → Acted
fails_by runner went = record { next = record runner { node = went.next }; inputs = went.inputs; prints = [] }

abbrev pub sent_to : Runner → Slot → Submission → Option ℕ → Acted
sent_to runner slot taken None = fails_by runner (concluded runner.node slot unanswered)
sent_to runner slot taken (Some number) = pushes runner slot taken number (session_at runner.sessions number)

abbrev pub sent : Runner → Slot → Option Submission → Acted
sent runner slot None = fails_by runner (concluded runner.node slot unanswered)
sent runner slot (Some taken) = sent_to runner slot taken (target_in runner.sessions (is_long taken.text) taken.target)

-- the attempt is granted
abbrev pub granted : Runner → Input → Acted
granted runner grant = record { next = record runner { node = with_step runner.node (step_at runner.node grant) }; inputs = grant ∷ []; prints = [] }

-- it is granted, and sent to its account, or it is not granted
abbrev pub granted_unless : Runner → ℕ → Slot → Option GrantRefusal → Acted
granted_unless runner id slot None = followed_by (granted runner (Grant slot)) (sent (granted runner (Grant slot)).next slot (submission_at runner.node id))
granted_unless runner id slot (Some refusal) = record { next = runner; inputs = []; prints = Ungranted (refusal_number refusal) ∷ [] }

-- the attempt is asked for in which the known chain of a message ends
abbrev pub on_grant : Runner → ℕ → Acted
on_grant runner id = granted_unless runner id (known_slot runner.node.kept id) (grant_refusal runner.node.setup runner.node.kept id)

-- ---- a restart

-- a node has so many incarnations, and once the last has begun, a restart is refused with this number (own)
abbrev pub last_incarnation : ℕ
last_incarnation = 9999

abbrev pub no_incarnation : ℕ
no_incarnation = 6

abbrev pub gone_prints : List (ℕ × Session) → List Print
gone_prints connected = map (λ entry. Gone entry.0) connected

-- no session is connected any more, no receipt waits, and what the node keeps outlives its stop
abbrev pub restarted : Runner → Acted
restarted runner = record {
  next = record { node = with_step runner.node (step_at runner.node (Restart 0)); sessions = []; streams = []; waiting = [] };
  inputs = Restart 0 ∷ [];
  prints = gone_prints runner.sessions;
}

abbrev pub declined : Runner → ℕ → Acted
declined runner number = record { next = runner; inputs = []; prints = Declined number ∷ [] }

-- the node starts anew, in the next incarnation
abbrev pub on_restart : Runner → Acted
on_restart runner = if nat_lt runner.node.kept.incarnation last_incarnation then restarted runner else declined runner no_incarnation

-- ---- a packet comes

-- a step of the node: its replies go out, and then its receipts
abbrev pub reports_by : Runner → Node → Input → Stepped → Acted
reports_by runner node input step =
    followed_by (answered_by runner node input step) (posts (answered_by runner node input step).next step.outputs.receipts)

-- a packet comes to the node
abbrev pub on_delivery : Runner → Packet → Acted
on_delivery runner packet = reports_by runner runner.node (Delivery packet) (step_at runner.node (Delivery packet))
