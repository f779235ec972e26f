-- The deliver_sm of attempts that wait for their answers on sessions, and what comes of a PDU there.
use Rattle.std.proofs.Common.{◌≡◌, ◌⊎◌, ℕ, Bool, true, false, List, [], ◌∷◌, ◌++◌, Option, Some, None, refl, sym, ◌∙◌, ap, subst, inl, inr}
use Rattle.std.specs.Prelude.{◌==◌, if◌then◌else◌, find}
use Rattle.std.specs.Map.{lookup}
use Rattle.std.specs.Ordering.{nat_cmp}
use Rattle.std.specs.BTreeMap.{is_at}
use Rattle.std.proofs.Common.{eqb-true}
use Rattle.mc_model.specs.message.Decree.{Delivered}
use Rattle.mc_model.specs.synod.Lists.{In}
use Rattle.mc_model.specs.synod.Packet.{Slot}
use Rattle.mc_model.specs.node.Outcome.{Concluded, Outcome, rejected_error, undeliverable_error}
use Rattle.mc_model.specs.message.Decree.{Rejected, Undeliverable}
use Rattle.mc_parts.proofs.Membership.{in_two}
use Rattle.accounts.specs.declared.account.Account.{Account}
use Rattle.accounts.specs.declared.role.Role.{Role}
use Rattle.accounts.specs.Accounts.{account_of, bind_refusal}
use Rattle.pdu_tables.specs.StatusCodes.{status_code}
use Rattle.pdu_tables.specs.declared.status.Status.{Status}
use Rattle.pdu_tables.specs.declared.status.Status.TheVariants as statuses
use Rattle.pdu_fields.specs.declared.fault.PduFault.{PduFault}
use Rattle.pdu_fields.specs.declared.fault.PduFault.TheVariants as faults
use Rattle.pdu_bodies.specs.declared.pdu.Bind.{Bind}
use Rattle.pdu_bodies.specs.declared.pdu.Body.{Body}
use Rattle.pdu_bodies.specs.declared.pdu.Body.TheVariants as bodies
use Rattle.pdu_bodies.specs.declared.pdu.Pdu.{Pdu}
use Rattle.pdu_codec.specs.Bodies.{command_in}
use Rattle.delivery.specs.Outcomes.{failed_with, outcome_by, told_by, told_in}
use Rattle.sessions.specs.Session.{Session}
use Rattle.sessions.specs.States.{is_gone}
use Rattle.sessions.specs.Faults.{told_of}
use Rattle.sessions.specs.Windows.{has_room}
use Rattle.sessions.specs.Table.{Cell, Binds, Refuses, Asks, Unbinds, Links, NotServed, Answers, Drops, cell_of}
use Rattle.sessions.specs.Steps.{Done, answers_to, asks, bind_in, binds_by, binds_unless, on_answer, on_cell, on_fault, on_pdu, on_push, on_wait}
use Rattle.sessions.specs.Steps.{can_wait, leaves, on_wrong_length, push_refusal, pushed_unless, refused, request_in, responds, stays}
use Rattle.sessions.specs.declared.pushed.Delivery.{Delivery}
use Rattle.sessions.specs.declared.pushed.Delivery.TheVariants as deliveries
use Rattle.sessions.specs.declared.pushed.Pushed.{Pushed}
use Rattle.sessions.specs.declared.pushed.PushRefusal.{PushRefusal}
use Rattle.sessions.specs.declared.reaction.Reaction.{Reaction}
use Rattle.sessions.specs.declared.reaction.Reaction.TheVariants as reactions
use Rattle.sessions.specs.declared.request.OpenRequest.{OpenRequest}
use Rattle.sessions.specs.declared.requested.Requested.{Requested}
use Rattle.sessions.specs.declared.response.Outgoing.{Outgoing}
use Rattle.sessions.specs.declared.response.Response.{Response}
use Rattle.sessions.specs.declared.response.Response.TheVariants.{Nack}
use Rattle.script_text.specs.Runner.{session_in, session_or_opened}
use Rattle.world_fates.proofs.node.Posting.{found_in, left_in}
use Rattle.world_fates.proofs.Entries.{found_entry}

-- ---- what waits

-- the deliver_sm of an attempt waits, with this sequence_number
pub record Waits (pushed : List Pushed) (slot : Slot) (sequence : ℕ) : Type 0 where
  pub request : Pushed
  pub among : In request pushed
  pub attempt : request.delivery ≡ deliveries.Attempt slot
  pub sequence_is : request.sequence ≡ sequence

-- on the session of this number
pub record WaitsOn (connected : List (ℕ × Session)) (number : ℕ) (slot : Slot) (sequence : ℕ) : Type 0 where
  pub session : Session
  pub there : In (number, session) connected
  pub waits : Waits session.pushed slot sequence

-- what waits then waited before
abbrev pub IsFewer : Session → Session → Type 0
IsFewer before after = (request : Pushed) → In request after.pushed → In request before.pushed

pub fewer_waits : (before after : Session) → IsFewer before after → (slot : Slot) (sequence : ℕ) → Waits after.pushed slot sequence →
    Waits before.pushed slot sequence
fewer_waits before after fewer slot sequence waits = record {
  request = waits.request;
  among = fewer waits.request waits.among;
  attempt = waits.attempt;
  sequence_is = waits.sequence_is;
}

-- on a session that begins, nothing waits
pub in_session : (connected : List (ℕ × Session)) (number : ℕ) (slot : Slot) (sequence : ℕ) → Waits (session_in connected number).pushed slot sequence →
    WaitsOn connected number slot sequence
in_session connected number slot sequence waits = by_found (lookup (is_at (nat_cmp number)) connected) refl waits
  where
    by_found : (found : Option Session) → lookup (is_at (nat_cmp number)) connected ≡ found → Waits (session_or_opened found).pushed slot sequence →
        WaitsOn connected number slot sequence
    by_found None is waits = absurd waits.among
    by_found (Some session) is waits = record { session = session; there = found_entry connected number session is; waits = waits }

-- ---- what comes of a PDU

-- neither an answer nor the session's end
abbrev IsQuiet : Reaction → Type 0
IsQuiet reactions.Nothing = Unit {0}
IsQuiet (reactions.Respond outgoing) = Unit {0}
IsQuiet (reactions.Leave outgoing abandoned) = ⊥
IsQuiet (reactions.Ask requested) = Unit {0}
IsQuiet (reactions.Answered pushed) = ⊥

-- What waits then waited before, each way; what is left is gone; and an answer is to what waited.
pub record ComesOf (session : Session) (done : Done) : Type 0 where
  pub fewer : IsFewer session done.next
  pub less : (request : OpenRequest) → In request done.next.requests → In request session.requests
  pub leaves : (outgoing : Outgoing) (abandoned : List Pushed) → done.reaction ≡ reactions.Leave outgoing abandoned → is_gone done.next.state ≡ true
  pub answers : (pushed : Pushed) → done.reaction ≡ reactions.Answered pushed → In pushed session.pushed

quietly : (session : Session) (done : Done) → IsFewer session done.next →
    ((request : OpenRequest) → In request done.next.requests → In request session.requests) → IsQuiet done.reaction → ComesOf session done
quietly session done fewer less quiet = record {
  fewer = fewer;
  less = less;
  leaves = λ outgoing abandoned is. absurd (subst IsQuiet is quiet);
  answers = λ pushed is. absurd (subst IsQuiet is quiet);
}

stays_quietly : (session : Session) (reaction : Reaction) → IsQuiet reaction → ComesOf session (stays session reaction)
stays_quietly session reaction quiet = quietly session (stays session reaction) (λ request among. among) (λ request among. among) quiet

responds_quietly : (sequence : ℕ) (response : Option Response) → IsQuiet (responds sequence response)
responds_quietly sequence None = tt
responds_quietly sequence (Some response) = tt

leaves_so : (session : Session) (sequence : ℕ) (response : Response) → ComesOf session (leaves session sequence response)
leaves_so session sequence response = record {
  fewer = λ request among. absurd among;
  less = λ request among. absurd among;
  leaves = λ outgoing abandoned is. refl;
  answers = λ pushed is. absurd (never pushed is);
}
  where
    never : (pushed : Pushed) → (leaves session sequence response).reaction ≡ reactions.Answered pushed → ⊥
    never pushed is = cc

answer_so : (session : Session) (sequence : ℕ) → ComesOf session (on_answer session sequence)
answer_so session sequence = record {
  fewer = λ request among. left_in (λ (other : Pushed). other.sequence == sequence) session.pushed request among;
  less = λ request among. among;
  leaves = λ outgoing abandoned is. absurd (no_end (find (λ (other : Pushed). other.sequence == sequence) session.pushed) outgoing abandoned is);
  answers = λ pushed is. answered (find (λ (other : Pushed). other.sequence == sequence) session.pushed) refl pushed is;
}
  where
    no_end : (found : Option Pushed) (outgoing : Outgoing) (abandoned : List Pushed) → answers_to found ≡ reactions.Leave outgoing abandoned → ⊥
    no_end None outgoing abandoned is = cc
    no_end (Some pushed) outgoing abandoned is = cc

    the_same : (one other : Pushed) → reactions.Answered one ≡ reactions.Answered other → one ≡ other
    the_same one other is = cc

    answered : (found : Option Pushed) → find (λ (other : Pushed). other.sequence == sequence) session.pushed ≡ found → (pushed : Pushed) →
        answers_to found ≡ reactions.Answered pushed → In pushed session.pushed
    answered None at pushed is = absurd cc
    answered (Some one) at pushed is =
        subst (λ (p : Pushed). In p session.pushed) (the_same one pushed is)
        (found_in (λ (other : Pushed). other.sequence == sequence) session.pushed one at)

binds_so : (accounts : List Account) (session : Session) (sequence : ℕ) (role : Role) (bind : Option Bind) →
    ComesOf session (binds_by accounts session sequence role bind)
binds_so accounts session sequence role None = stays_quietly session reactions.Nothing tt
binds_so accounts session sequence role (Some bind) = by_refusal (bind_refusal (account_of accounts bind.system_id) role bind)
  where
    by_refusal : (refusal : Option Status) → ComesOf session (binds_unless refusal session sequence role bind)
    by_refusal None = quietly session (binds_unless None session sequence role bind) (λ request among. among) (λ request among. among) tt
    by_refusal (Some status) = stays_quietly session _ tt

asks_quietly : (session : Session) (sequence : ℕ) (requested : Option Requested) → IsQuiet (asks session sequence requested)
asks_quietly session sequence None = tt
asks_quietly session sequence (Some requested) = by_test (has_room session.requests)
  where
    by_test : (room : Bool) → IsQuiet (if room then reactions.Ask requested else refused sequence (Some requested) statuses.Throttled)
    by_test true = tt
    by_test false = tt

cell_so : (accounts : List Account) (session : Session) (pdu : Pdu) (cell : Cell) → ComesOf session (on_cell accounts session pdu cell)
cell_so accounts session pdu (Binds role) = binds_so accounts session pdu.sequence role (bind_in pdu.body)
cell_so accounts session pdu (Refuses status) = stays_quietly session _ (responds_quietly pdu.sequence _)
cell_so accounts session pdu Asks = stays_quietly session _ (asks_quietly session pdu.sequence (request_in pdu))
cell_so accounts session pdu Unbinds = leaves_so session pdu.sequence _
cell_so accounts session pdu Links = stays_quietly session _ tt
cell_so accounts session pdu NotServed = stays_quietly session _ tt
cell_so accounts session pdu Answers = answer_so session pdu.sequence
cell_so accounts session pdu Drops = stays_quietly session _ tt

pub pdu_so : (accounts : List Account) (session : Session) (pdu : Pdu) → ComesOf session (on_pdu accounts session pdu)
pdu_so accounts session pdu = cell_so accounts session pdu (cell_of (command_in pdu.body) session.state)

pub wrong_length_so : (session : Session) → ComesOf session (on_wrong_length session)
wrong_length_so session = by_test (is_gone session.state)
  where
    by_test : (gone : Bool) → ComesOf session (if gone then stays session reactions.Nothing else leaves session 0 (Nack statuses.InvalidCommandLength))
    by_test true = stays_quietly session reactions.Nothing tt
    by_test false = leaves_so session 0 _

pub fault_so : (session : Session) (fault : PduFault) (requested : Option Requested) (sequence : ℕ) →
    ComesOf session (on_fault session fault requested sequence)
fault_so session faults.Length requested sequence = wrong_length_so session
fault_so session fault requested sequence = stays_quietly session _ (by_test (is_gone session.state) (told_of fault requested))
  where
    by_test : (gone : Bool) (response : Option Response) → IsQuiet (if gone then reactions.Nothing else responds sequence response)
    by_test true response = tt
    by_test false response = responds_quietly sequence response

-- ---- the answer to a deliver_sm

-- a deliver_sm_resp with ESME_ROK and this sequence_number
pub record IsAcknowledged (pdu : Pdu) (sequence : ℕ) : Type 0 where
  pub text : Option (List ℕ)
  pub body : pdu.body ≡ bodies.DeliverSmResp text
  pub status : pdu.status ≡ status_code statuses.Ok
  pub sequence_is : pdu.sequence ≡ sequence

failed_not : (status error : ℕ) → failed_with status ≡ Concluded Delivered error → ⊥
failed_not status error is = cc

status_ok : (status error : ℕ) → outcome_by status ≡ Concluded Delivered error → status ≡ status_code statuses.Ok
unfolding outcome_by
status_ok status error is = by_ok (status == status_code statuses.Ok) refl is
  where
    by_rejected : (rejected : Bool) → (if rejected then Concluded Rejected rejected_error else failed_with status) ≡ Concluded Delivered error → ⊥
    by_rejected true is = cc
    by_rejected false is = failed_not status error is

    by_permanent : (permanent : Bool) → (if permanent then Concluded Undeliverable undeliverable_error
        else if status == status_code statuses.RejectedByApplication then Concluded Rejected rejected_error else failed_with status) ≡
        Concluded Delivered error → ⊥
    by_permanent true is = cc
    by_permanent false is = by_rejected (status == status_code statuses.RejectedByApplication) is

    by_ok : (ok : Bool) → (status == status_code statuses.Ok) ≡ ok → (if ok then Concluded Delivered 0
        else if status == status_code statuses.PermanentApplicationError then Concluded Undeliverable undeliverable_error
        else if status == status_code statuses.RejectedByApplication then Concluded Rejected rejected_error else failed_with status) ≡
        Concluded Delivered error → status ≡ status_code statuses.Ok
    by_ok true test is = eqb-true status (status_code statuses.Ok) test
    by_ok false test is = absurd (by_permanent (status == status_code statuses.PermanentApplicationError) is)

some_outcome : (one other : Outcome) → Some one ≡ Some other → one ≡ other
some_outcome one other is = cc

body_acknowledges : (pdu : Pdu) (sequence error : ℕ) → pdu.sequence ≡ sequence → (body : Body) → pdu.body ≡ body →
    told_by pdu.status body ≡ Some (Concluded Delivered error) → IsAcknowledged pdu sequence
body_acknowledges pdu sequence error same (bodies.DeliverSmResp text) body is = record {
  text = text;
  body = body;
  status = status_ok pdu.status error (some_outcome _ _ is);
  sequence_is = same;
}
body_acknowledges pdu sequence error same bodies.GenericNack body is = absurd (failed_not pdu.status error (some_outcome _ _ is))
body_acknowledges pdu sequence error same other body is = absurd cc

pub acknowledged : (pdu : Pdu) (sequence error : ℕ) → told_in sequence pdu ≡ Some (Concluded Delivered error) → IsAcknowledged pdu sequence
acknowledged pdu sequence error is = by_test (pdu.sequence == sequence) refl is
  where
    by_test : (test : Bool) → (pdu.sequence == sequence) ≡ test → (if test then told_by pdu.status pdu.body else None) ≡ Some (Concluded Delivered error) →
        IsAcknowledged pdu sequence
    by_test true same is = body_acknowledges pdu sequence error (eqb-true pdu.sequence sequence same) pdu.body refl is
    by_test false same is = absurd cc

-- ---- pushes

-- it waits now, or waited before
pub push_waits : (session : Session) (now : ℕ) (delivery : Delivery) (slot : Slot) (sequence : ℕ) → Waits (on_push session now delivery).pushed slot sequence →
    Waits session.pushed slot sequence ⊎ ((delivery ≡ deliveries.Attempt slot) × (session.next_sequence ≡ sequence))
push_waits session now delivery slot sequence waits = by_refusal (push_refusal session) waits
  where
    new : Pushed
    new = record { sequence = session.next_sequence; since = now; delivery = delivery }

    by_refusal : (refusal : Option PushRefusal) → Waits (pushed_unless refusal session now delivery).pushed slot sequence →
        Waits session.pushed slot sequence ⊎ ((delivery ≡ deliveries.Attempt slot) × (session.next_sequence ≡ sequence))
    by_refusal (Some refusal) waits = inl waits
    by_refusal None waits = elim (in_two waits.request session.pushed new waits.among) [
      | inl old ↦ inl (record { request = waits.request; among = old; attempt = waits.attempt; sequence_is = waits.sequence_is })
      | inr same ↦ inr (
        ap (λ (p : Pushed). p.delivery) (sym same) ∙ waits.attempt,
        ap (λ (p : Pushed). p.sequence) (sym same) ∙ waits.sequence_is,
      )
    ]

-- a request that waits at the node changes nothing of it
pub wait_fewer : (session : Session) (request : OpenRequest) → IsFewer session (on_wait session request)
wait_fewer session request = by_test (can_wait session)
  where
    by_test : (can : Bool) → IsFewer session (if can then record session { requests = session.requests ++ request ∷ [] } else session)
    by_test true other among = among
    by_test false other among = among
