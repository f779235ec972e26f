-- The one-node text: what a calm script prints, over a table from message id to chain.
use Rattle.std.specs.Prelude.{ℕ, Bool, false, List, [], ◌∷◌, ◌++◌, Option, Some, None, Result, Ok, Err}
use Rattle.std.specs.Ordering.{nat_cmp}
use Rattle.std.specs.BTreeMap.{insert_entry}
use Rattle.mc_model.specs.message.Chain.{taken_in}
use Rattle.mc_model.specs.message.Ids.{id_of}
use Rattle.mc_model.specs.message.Submission.{Submission}
use Rattle.mc_model.specs.node.Actor.{Request}
use Rattle.mc_model.specs.node.Grant.{GrantRefusal, refusal_number}
use Rattle.mc_model.specs.node.Input.{Input}
use Rattle.mc_model.specs.node.Outcome.{Outcome}
use Rattle.mc_model.specs.node.Outputs.{Receipt, Reply}
use Rattle.table_laws.specs.Attempts.{concluded_at, granted_at, newest_slot, receipts_on, refusal_at}
use Rattle.table_laws.specs.Tables.{TableNode, chain_at, new_table, receipts_by, reply_to, requested}
use Rattle.table_laws.specs.Ticks.{receipts_ticked, ticked}
use Rattle.pdu_tables.specs.CommandCodes.{command_of}
use Rattle.pdu_tables.specs.declared.status.Status.{Status}
use Rattle.pdu_codec.specs.Grammar.{word_at}
use Rattle.pdu_codec.specs.Pdu.{read_pdu}
use Rattle.pdu_fields.specs.declared.fault.PduFault.{PduFault}
use Rattle.pdu_bodies.specs.declared.pdu.Pdu.{Pdu}
use Rattle.sessions.specs.Session.{Session}
use Rattle.sessions.specs.Responses.{pdu_of, requested_by}
use Rattle.sessions.specs.Steps.{Done, on_fault, on_pdu}
use Rattle.sessions.specs.declared.pushed.Delivery.{Delivery}
use Rattle.sessions.specs.declared.pushed.Delivery.TheVariants as deliveries
use Rattle.sessions.specs.declared.reaction.Reaction.{Reaction}
use Rattle.sessions.specs.declared.reaction.Reaction.TheVariants.{Respond, Ask, Answered}
use Rattle.sessions.specs.declared.requested.Requested.{Requested}
use Rattle.desk.specs.Admissions.{admitted}
use Rattle.desk.specs.declared.door.Door.{Door}
use Rattle.desk.specs.declared.request.Request.{Request as Asked}
use Rattle.script_text.specs.Settings.{Settings, script_settings}
use Rattle.script_text.specs.Left.{Left, followed_by, in_front}
use Rattle.script_text.specs.Attempts.{unanswered}
use Rattle.script_text.specs.Responses.{refusal_pdu, reply_pdu}
use Rattle.script_text.specs.Prints.{Print, AtOnce, Late, Delivers, Ungranted, text_at}
use Rattle.script_text.specs.Pushes.{accounts_up, delivery_on, is_long, target_in, with_push}
use Rattle.delivery.specs.Targets.{is_up}
use Rattle.script_text.specs.Receipts.{Mail, Posted, all_posted, posted_for_all, posted_for_any}
use Rattle.script_text.specs.Runner.{Came, came_by, nothing_came, session_in}
use Rattle.script_text.specs.Events.{Event, Comes, Ticks, Grants, Settles, Play, play_of}

-- The table of the node; the sessions, on which no request of an ESME waits; the receipts that wait for a session; and what the next settle
-- prints, and the receipts that are due then.
pub record OneNode : Type 0 where
  pub node : TableNode
  pub sessions : List (ℕ × Session)
  pub waiting : List Receipt
  pub owed : List Print
  pub due : List Receipt

-- what happens leaves this, and prints this
abbrev pub Happened : Type 0
Happened = Left OneNode Input Print

abbrev pub prints_now : OneNode → List Print → Happened
prints_now one prints = record { next = one; inputs = []; prints = prints }

-- ---- receipts

abbrev pub mail_of : OneNode → Mail
mail_of one = record { sessions = one.sessions; waiting = one.waiting }

abbrev pub with_posted : OneNode → Posted → Happened
with_posted one posted = prints_now (record one { sessions = posted.next.sessions; waiting = posted.next.waiting }) posted.prints

-- what waits for an account goes out
abbrev pub posts_for : OneNode → Option (List ℕ) → Happened
posts_for one account = with_posted one (posted_for_any one.node.clock (mail_of one) account)

-- ---- a request

-- what is looked at when a request comes, while no other waits; and the id that a submit_sm gets
abbrev pub door_of : Settings → TableNode → Door
door_of settings t = record { clock = t.clock; validity = settings.validity; serial = t.serial; busy = false }

abbrev pub next_id : TableNode → ℕ
next_id t = id_of 1 t.incarnation t.serial

abbrev pub late : ℕ → Requested → ℕ → Reply → Print
late number kind sequence reply = Late number reply.id (reply_pdu kind sequence reply.id reply.answer)

-- The table answers it at the next settle, or it is refused at once.
abbrev pub asked_so : OneNode → ℕ → Requested → ℕ → Result Request Status → Happened
asked_so one number kind sequence (Ok request) =
    prints_now (record one {
      node = requested one.node request;
      owed = one.owed ++ late number kind sequence (reply_to one.node request) ∷ [];
      due = one.due ++ receipts_by one.node request;
    }) []
asked_so one number kind sequence (Err status) = prints_now one (AtOnce number (refusal_pdu kind sequence status) ∷ [])

abbrev pub asked : Settings → OneNode → ℕ → Requested → ℕ → Option (List ℕ) → Option Asked → Happened
asked settings one number kind sequence (Some account) (Some request) =
    asked_so one number kind sequence (admitted (door_of settings one.node) (next_id one.node) account request)
asked settings one number kind sequence account request = prints_now one []

-- ---- attempts

abbrev pub concludes : OneNode → ℕ → Outcome → OneNode
concludes one id outcome = record one { node = concluded_at one.node id outcome; due = one.due ++ receipts_on one.node id outcome }

-- the ESME answered what was pushed to it
abbrev pub answered : OneNode → Delivery → Option Outcome → OneNode
answered one (deliveries.Attempt slot) (Some outcome) = concludes one slot.id outcome
answered one (deliveries.Attempt slot) None = one
answered one (deliveries.Receipt id) outcome = one

-- an attempt goes out over this session; if there is none, it fails
abbrev pub sent_over : OneNode → ℕ → Submission → Option ℕ → Happened
sent_over one id taken None = prints_now (concludes one id unanswered) []
sent_over one id taken (Some number) =
    prints_now (record one { sessions = with_push one.sessions number one.node.clock (deliveries.Attempt (newest_slot one.node id)) })
    (Delivers number (delivery_on (session_in one.sessions number) taken) ∷ [])

-- to the account of its message
abbrev pub sent : OneNode → ℕ → Option Submission → Happened
sent one id None = prints_now (concludes one id unanswered) []
sent one id (Some taken) = sent_over one id taken (target_in one.sessions (is_long taken.text) taken.target)

-- it is granted, unless the table has a reason not to
abbrev pub granted_unless : OneNode → ℕ → Option GrantRefusal → Happened
granted_unless one id None = sent (record one { node = granted_at one.node id }) id (taken_in (chain_at one.node.table id))
granted_unless one id (Some refusal) = prints_now one (Ungranted (refusal_number refusal) ∷ [])

-- ---- a PDU

abbrev pub with_session : OneNode → ℕ → Session → OneNode
with_session one number session = record one { sessions = insert_entry nat_cmp one.sessions number session }

abbrev pub account_at : OneNode → ℕ → Option (List ℕ)
account_at one number = (session_in one.sessions number).account

-- what comes of a PDU by the session table
abbrev pub reacted : Settings → OneNode → ℕ → Came → Session → Reaction → Happened
reacted settings one number came next (Respond outgoing) =
    prints_now (with_session one number next) (AtOnce number (pdu_of settings.system_id outgoing) ∷ [])
reacted settings one number came next (Ask kind) = asked settings one number kind came.sequence next.account came.request
reacted settings one number came next (Answered pushed) =
    prints_now (answered (with_session one number next) pushed.delivery (came.outcome pushed.sequence)) []
reacted settings one number came next other = prints_now one []

-- and then what waits for the account of the session goes out
abbrev pub and_posted : Happened → Option (List ℕ) → Happened
and_posted happened account = in_front happened.prints (posts_for happened.next account)

abbrev pub done_by : Settings → OneNode → ℕ → Came → Done → Happened
done_by settings one number came done = and_posted (reacted settings one number came done.next done.reaction) done.next.account

abbrev pub came : Settings → OneNode → ℕ → List ℕ → Result Pdu PduFault → Happened
came settings one number octets (Ok pdu) =
    done_by settings one number (came_by settings pdu) (on_pdu settings.accounts (session_in one.sessions number) pdu)
came settings one number octets (Err fault) =
    done_by settings one number nothing_came
    (on_fault (session_in one.sessions number) fault (requested_by (command_of (word_at 4 octets))) (word_at 12 octets))

-- ---- events

-- a tick leaves this table, and these receipts are due by it; what waits goes out
abbrev pub ticks : OneNode → TableNode → List Receipt → Happened
ticks one t receipts =
    with_posted (record one { node = t; due = one.due ++ receipts }) (posted_for_all t.clock (mail_of one) (accounts_up one.sessions))

-- a moment has come, at which these accounts have a session that may receive
abbrev pub ticks_up : OneNode → ℕ → (List ℕ → Bool) → Happened
ticks_up one moment up = ticks one (ticked one.node moment up) (receipts_ticked one.node moment up)

-- what was owed is printed, and the receipts that are due go out
abbrev pub settled : OneNode → Happened
settled one = in_front one.owed (with_posted (record one { owed = []; due = [] }) (all_posted one.node.clock (mail_of one) one.due))

unfoldable pub happens : Settings → OneNode → Event → Happened
happens settings one (Comes number octets) = came settings one number octets (read_pdu octets)
happens settings one (Ticks moment) = ticks_up one moment (is_up (accounts_up one.sessions))
happens settings one (Grants id) = granted_unless one id (refusal_at one.node id)
happens settings one Settles = settled one

-- what events print, one after the other, and what they leave
unfoldable pub happen : Settings → OneNode → List Event → Happened
happen settings one [] = prints_now one []
happen settings one (event ∷ events) = followed_by (happens settings one event) (happen settings (happens settings one event).next events)

abbrev pub one_node : ℕ → OneNode
one_node serial = record { node = new_table serial; sessions = []; waiting = []; owed = []; due = [] }

-- what the events of a script print, and what they leave
abbrev pub played : Play → Happened
played play = happen script_settings (one_node play.serial) play.events

abbrev pub prints_if : Option Play → List Print
prints_if None = []
prints_if (Some play) = (played play).prints

-- the one-node text of a script
abbrev pub one_node_text : List ℕ → List ℕ
one_node_text script = text_at 1 (prints_if (play_of script))
