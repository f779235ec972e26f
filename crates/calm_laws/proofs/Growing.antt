-- The table of the one node never gets shorter.
use Rattle.std.proofs.Common.{ℕ, ◌≤◌, Bool, true, false, cond, List, [], ◌∷◌, length, Option, Some, None, Result, Ok, Err, arith}
use Rattle.std.specs.Ordering.{match_ordering, nat_cmp}
use Rattle.std.specs.declared.cmp.Ordering.{Ordering}
use Rattle.std.specs.declared.cmp.Ordering.TheVariants.{Less, Equal, Greater}
use Rattle.std.specs.BTreeMap.{insert_entry}
use Rattle.std.proofs.lemmas.List.{length-map}
use Rattle.mc_model.specs.message.Chain.{taken_in}
use Rattle.mc_model.specs.message.Decree.{Deleted, Fate, Kind, Taken}
use Rattle.mc_model.specs.message.Submission.{Submission}
use Rattle.mc_model.specs.node.Actor.{Cancel, Query, Request, Submit}
use Rattle.mc_model.specs.node.Grant.{GrantRefusal}
use Rattle.mc_model.specs.node.Outcome.{Outcome, decree_of}
use Rattle.table_laws.specs.Attempts.{granted_at, refusal_at}
use Rattle.table_laws.specs.Tables.{Entry, Table, TableNode, chain_at, decree_by, decreed, entry_at, is_deleted, settled, table_by}
use Rattle.table_laws.specs.Ticks.{at_clock, entry_then}
use Rattle.pdu_tables.specs.CommandCodes.{command_of}
use Rattle.pdu_tables.specs.declared.status.Status.{Status}
use Rattle.pdu_codec.specs.Grammar.{word_at}
use Rattle.pdu_codec.specs.Pdu.{read_pdu}
use Rattle.pdu_fields.specs.declared.fault.PduFault.{PduFault}
use Rattle.pdu_bodies.specs.declared.pdu.Pdu.{Pdu}
use Rattle.sessions.specs.Session.{Session}
use Rattle.sessions.specs.Responses.{requested_by}
use Rattle.sessions.specs.Steps.{Done, on_fault, on_pdu}
use Rattle.sessions.specs.declared.pushed.Delivery.{Delivery}
use Rattle.sessions.specs.declared.pushed.Delivery.TheVariants as deliveries
use Rattle.sessions.specs.declared.reaction.Reaction.{Reaction}
use Rattle.sessions.specs.declared.reaction.Reaction.TheVariants as reactions
use Rattle.sessions.specs.declared.requested.Requested.{Requested}
use Rattle.desk.specs.Admissions.{admitted}
use Rattle.desk.specs.declared.request.Request.{Request as Asked}
use Rattle.script_text.specs.Settings.{Settings}
use Rattle.script_text.specs.Attempts.{unanswered}
use Rattle.script_text.specs.Pushes.{accounts_up, is_long, target_in}
use Rattle.delivery.specs.Targets.{is_up}
use Rattle.script_text.specs.Runner.{came_by, nothing_came, session_in}
use Rattle.script_text.specs.Runner as runner
use Rattle.script_text.specs.Events.{Comes, Event, Grants, Settles, Ticks}
use Rattle.script_text.specs.OneNode.{OneNode, answered, asked, asked_so, came, done_by, door_of, granted_unless, happen, happens, next_id}
use Rattle.script_text.specs.OneNode.{reacted, sent, sent_over, with_session}

-- ---- tables

longer : (table : Table) (id : ℕ) (entry : Entry) → length table ≤ length (insert_entry nat_cmp table id entry)
longer [] id entry = omega arith
longer (e ∷ table) id entry = by_order (nat_cmp id e.0) (longer table id entry)
  where
    by_order : (o : Ordering) → length table ≤ length (insert_entry nat_cmp table id entry) →
        length (e ∷ table) ≤ length (match_ordering o ((id, entry) ∷ e ∷ table) ((e.0, entry) ∷ table) (e ∷ insert_entry nat_cmp table id entry))
    by_order Less rest = omega arith
    by_order Equal rest = omega arith
    by_order Greater rest = omega (arith, rest)

-- a table is no shorter than another
abbrev IsLonger : Table → Table → Type 0
IsLonger before now = length before ≤ length now

same_length : (table : Table) → IsLonger table table
same_length table = omega arith

decreed_longer : (t : TableNode) (id : ℕ) (kind : Kind) → IsLonger t.table (decreed t id kind)
decreed_longer t id kind = longer t.table id (settled t (chain_at t.table id) (decree_by t (chain_at t.table id) kind))

request_longer : (t : TableNode) (request : Request) → IsLonger t.table (table_by t request)
request_longer t (Submit id message) = decreed_longer t id (Taken message)
request_longer t (Query id account source) = same_length t.table
request_longer t (Cancel id account source destination) = by_test (is_deleted account source destination (chain_at t.table id))
  where
    by_test : (deletes : Bool) → IsLonger t.table (cond deletes (decreed t id (Fate Deleted 0)) t.table)
    by_test true = decreed_longer t id (Fate Deleted 0)
    by_test false = same_length t.table

-- ---- what comes on a session

-- what happens leaves a table that is no shorter
abbrev Grows : OneNode → OneNode → Type 0
Grows one next = IsLonger one.node.table next.node.table

answered_grows : (one : OneNode) (delivery : Delivery) (outcome : Option Outcome) → Grows one (answered one delivery outcome)
answered_grows one (deliveries.Attempt slot) (Some outcome) = decreed_longer one.node slot.id (decree_of outcome)
answered_grows one (deliveries.Attempt slot) None = same_length one.node.table
answered_grows one (deliveries.Receipt id) outcome = same_length one.node.table

module _ (settings : Settings) (one : OneNode) (number : ℕ) where
  given_grows : (kind : Requested) (sequence : ℕ) (given : Result Request Status) → Grows one (asked_so one number kind sequence given).next
  given_grows kind sequence (Ok request) = request_longer one.node request
  given_grows kind sequence (Err status) = same_length one.node.table

  asked_grows : (kind : Requested) (sequence : ℕ) (account : Option (List ℕ)) (request : Option Asked) →
      Grows one (asked settings one number kind sequence account request).next
  asked_grows kind sequence None request = same_length one.node.table
  asked_grows kind sequence (Some account) None = same_length one.node.table
  asked_grows kind sequence (Some account) (Some request) =
      given_grows kind sequence (admitted (door_of settings one.node) (next_id one.node) account request)

  reacted_grows : (from : runner.Came) (next : Session) (reaction : Reaction) → Grows one (reacted settings one number from next reaction).next
  reacted_grows from next (reactions.Respond outgoing) = same_length one.node.table
  reacted_grows from next (reactions.Ask kind) = asked_grows kind from.sequence next.account from.request
  reacted_grows from next (reactions.Answered pushed) =
      answered_grows (with_session one number next) pushed.delivery (from.outcome pushed.sequence)
  reacted_grows from next reactions.Nothing = same_length one.node.table
  reacted_grows from next (reactions.Leave outgoing abandoned) = same_length one.node.table

  done_grows : (from : runner.Came) (done : Done) → Grows one (done_by settings one number from done).next
  done_grows from done = reacted_grows from done.next done.reaction

  came_grows : (octets : List ℕ) (read : Result Pdu PduFault) → Grows one (came settings one number octets read).next
  came_grows octets (Ok pdu) = done_grows (came_by settings pdu) (on_pdu settings.accounts (session_in one.sessions number) pdu)
  came_grows octets (Err fault) =
      done_grows nothing_came (on_fault (session_in one.sessions number) fault (requested_by (command_of (word_at 4 octets))) (word_at 12 octets))

-- ---- attempts

over_grows : (one : OneNode) (id : ℕ) (taken : Submission) (target : Option ℕ) → Grows one (sent_over one id taken target).next
over_grows one id taken None = decreed_longer one.node id (decree_of unanswered)
over_grows one id taken (Some number) = same_length one.node.table

sent_grows : (one : OneNode) (id : ℕ) (taken : Option Submission) → Grows one (sent one id taken).next
sent_grows one id None = decreed_longer one.node id (decree_of unanswered)
sent_grows one id (Some taken) = over_grows one id taken (target_in one.sessions (is_long taken.text) taken.target)

granted_grows : (one : OneNode) (id : ℕ) (refusal : Option GrantRefusal) → Grows one (granted_unless one id refusal).next
granted_grows one id None =
    let given = longer one.node.table id (record (entry_at one.node.table id) { granted = true }) in
    let rest = sent_grows (record one { node = granted_at one.node id }) id (taken_in (chain_at one.node.table id)) in
    omega (arith, given, rest)
granted_grows one id (Some refusal) = same_length one.node.table

-- ---- events

event_grows : (settings : Settings) (one : OneNode) (event : Event) → Grows one (happens settings one event).next
unfolding happens
event_grows settings one (Comes number octets) = came_grows settings one number octets (read_pdu octets)
event_grows settings one (Ticks moment) =
    let now = at_clock one.node moment in
    let same = length-map {B = ℕ × Entry} one.node.table (λ entry. (entry.0, entry_then now (is_up (accounts_up one.sessions)) entry.1)) in
    omega (arith, same)
event_grows settings one (Grants id) = granted_grows one id (refusal_at one.node id)
event_grows settings one Settles = same_length one.node.table

pub events_grow : (settings : Settings) (one : OneNode) (events : List Event) → length one.node.table ≤ length (happen settings one events).next.node.table
unfolding happen
events_grow settings one [] = same_length one.node.table
events_grow settings one (event ∷ events) =
    let first = event_grows settings one event in
    let rest = events_grow settings (happens settings one event).next events in
    omega (arith, first, rest)
